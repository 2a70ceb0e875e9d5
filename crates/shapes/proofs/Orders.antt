-- Strips are in order: since the points ascend, those before an end of a strip stand in front.
use Rattle.std.proofs.Common.{◌≡◌, ℕ, ◌+◌, ◌<◌, ◌≤◌, Bool, true, false, not, ◌&&◌, ltb, leb, List, length, get_or, count_by, ℤ, Option, Some, None, sym, refl, inl, inr, arith}
use lib.Signed.{le_z, lt_z}
use Rattle.std.specs.List.{slice_get, IsAllAdjacentAnswer}
use Rattle.std.specs.List.Sorted.{IsPartitionedBy, IsSortedBy}
use Rattle.std.specs.Option.{option_map_or}
use Rattle.std.specs.Ordering.{int_cmp, is_lt, partial_le}
use Rattle.std.proofs.lemmas.Int.{ints}
use Rattle.std.proofs.lemmas.Bool.{cases_lt, le-ltb, and_right}
use Rattle.std.proofs.lemmas.Bool.Decides.{nat_tests}
use Rattle.std.proofs.lemmas.List.{get_or_default}
use Rattle.std.proofs.lemmas.Cmp.{int_cmp_total}
use Rattle.std.proofs.lemmas.List.Sorted.{ranks_by, sorted_far}
use Rattle.std.proofs.lemmas.List.Sums.{count_by-le-length}
use Rattle.std.proofs.lemmas.Option.{slice_get-get_or, slice_get_past}
use Rattle.ranges.specs.Spaces.{Ordered}
use Rattle.ranges.proofs.Searches.{any_absent, any_found, any_not}
use Rattle.shapes.specs.declared.strip_range.StripPoint.{StripPoint}
use Rattle.shapes.specs.declared.strip_range.StripRange.{StripRange}
use Rattle.shapes.specs.Lists.{both_held}
use Rattle.shapes.specs.Strips.{strip_holds, x_at, falls, descends, strip_space, first_point, end_point, no_strip_point}
use Rattle.shapes.proofs.Fronts.{in_front}

-- the answer of `is_sorted_by_key`
keys_le : (x y : ℤ) → partial_le (λ a b. Some (int_cmp a b)) x y ≡ not (lt_z y x)
keys_le x y = grind (arith, ints)

in_turn : (x y : ℤ) (b : Bool) → b ≡ partial_le (λ a b. Some (int_cmp a b)) x y → lt_z y x ≡ not b
in_turn x y b is = grind (arith, is, keys_le x y)

pub sorted_answer : (ps : List StripPoint) (r : Bool) → IsAllAdjacentAnswer (λ p q b. b ≡ partial_le (λ a b. Some (int_cmp a b)) p.x q.x) ps r → not r ≡ descends ps
sorted_answer ps true all = sym (any_not (falls ps) _ (λ i l. in_turn (x_at ps i) (x_at ps (i + 1)) true (all i no_strip_point (omega arith))))
sorted_answer ps false some = sym (any_found (falls ps) _ some.0 (omega (arith, some.1)) (in_turn (x_at ps some.0) (x_at ps (some.0 + 1)) false (some.2 no_strip_point)))

turned : (a x : ℤ) (f p : ℕ) → lt_z x a ≡ ltb p f → le_z a x ≡ leb f p
turned a x f p e = grind (arith, ints, nat_tests)

module _ (ps : List StripPoint) (ascends : descends ps ≡ false) where
  sorted : IsSortedBy (λ p q. is_lt (int_cmp p.x q.x)) ps
  sorted k d from l =
      let up : falls ps k ≡ false = any_absent (falls ps) _ ascends k (omega arith) in
      let here = get_or_default ps k d no_strip_point (omega arith) in
      let next = get_or_default ps (k + 1) d no_strip_point l in
      rw (here, next) (grind (arith, ints, up))

  rising : (i k : ℕ) (d : StripPoint) → i ≤ k → k < length ps → is_lt (int_cmp (get_or ps k d).x (get_or ps i d).x) ≡ false
  rising = sorted_far (λ p q. is_lt (int_cmp p.x q.x)) (ranks_by int_cmp_total (λ p. p.x)) ps sorted

  pub below_parted : (a : ℤ) → IsPartitionedBy (λ p. lt_z p.x a) ps
  below_parted a i k d le l pass =
      let up = rising i k d le l in
      grind (arith, ints)

  pub up_to_parted : (b : ℤ) → IsPartitionedBy (λ p. le_z p.x b) ps
  up_to_parted b i k d le l pass =
      let up = rising i k d le l in
      grind (arith, ints)

  held_by : (s : StripRange) (p : ℕ) → both_held strip_holds (Some s) (slice_get ps p) ≡ (leb (count_by (λ q. lt_z q.x s.a) ps) p && ltb p (count_by (λ q. le_z q.x s.b) ps))
  held_by s p =
      elim (cases_lt p (length ps)) [
        | inl inside ↦ (
            let q = get_or ps p no_strip_point in
            let low = turned s.a q.x _ p (in_front (λ q. lt_z q.x s.a) ps no_strip_point (below_parted s.a) p inside) in
            let high = in_front (λ q. le_z q.x s.b) ps no_strip_point (up_to_parted s.b) p inside in
            rw (slice_get-get_or ps p no_strip_point inside) (λ d. low d && high d))
        | inr outside ↦ (
            let few = count_by-le-length (λ q. le_z q.x s.b) ps in
            rw (slice_get_past ps p outside) (sym (and_right _ _ (le-ltb p _ (omega arith)))))
      ]

  members : (o : Option StripRange) (p : ℕ) → both_held strip_holds o (slice_get ps p) ≡ (leb (option_map_or (λ s. count_by (λ q. lt_z q.x s.a) ps) o 0) p && ltb p (option_map_or (λ s. count_by (λ q. le_z q.x s.b) ps) o 0))
  members None p = sym (and_right _ _ (le-ltb p 0 (omega arith)))
  members (Some s) p = held_by s p

pub strips_ordered : (ps : List StripPoint) (ss : List StripRange) → descends ps ≡ false → Ordered (strip_space ps ss) (first_point ps ss) (end_point ps ss)
strips_ordered ps ss ascends = record {
  members = λ j p. members ps ascends (slice_get ss j) p;
  beyond = λ j l. let none = slice_get_past ss j l in (rw none refl, rw none refl);
}
