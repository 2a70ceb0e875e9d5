-- The points that lie in a heavy range hit every heavy range, since a heavy range holds a point.
use Rattle.std.specs.Prelude.{◌≡◌, ℕ, ◌+◌, ◌*◌, ◌<◌, Bool, true, cond, List, length, slice_index, slice_set}
use Rattle.std.proofs.Common.{sym, ap, ◌∙◌, inl, inr, arith}
use mir.Val.{bool_byte}
use Rattle.std.proofs.lemmas.Bool.{and_from, cases_Bool, cond-false, ltb-true}
use Rattle.std.proofs.lemmas.List.FromFn.{fill_by_all}
use Rattle.std.proofs.lemmas.List.Edits.{fill_by_more}
use Rattle.ranges.specs.Below.{count_below, any_below}
use Rattle.ranges.specs.Spaces.{RangeSpace}
use Rattle.ranges.specs.Weights.{weight_at, total, share, range_weight, heavy, marked, chosen, marks_of}
use Rattle.ranges.proofs.Marks.{byte_bit, marks_long, marks_bits, marks_marked, marks_chosen}
use Rattle.ranges.proofs.Searches.{any_decides, any_found, any_absent}
use Rattle.ranges.proofs.Sums.{sum_zero, count_le}
use Rattle.nets.specs.Finders.{FinderSound}
use Rattle.foreign.specs.Touched.{touched_by, touched, touching_finder}

-- a range that holds no point has no weight, so it is light
heavy_holds : (S : RangeSpace) (k : ℕ) (ws : List ℕ) (j : ℕ) → heavy S k ws j ≡ true → (p : ℕ) × (p < S.points) × (S.holds j p ≡ true)
heavy_holds S k ws j e = elim (cases_Bool (any_below (S.holds j) S.points)) [
  | inl some ↦ (any_decides (S.holds j) S.points).0 some
  | inr none ↦ (
      let nothing : range_weight S ws j ≡ 0 = sum_zero (share S ws j) S.points (λ p l. cond-false (S.holds j p) (weight_at ws p) 0 (any_absent (S.holds j) S.points none p l)) in
      let over = ltb-true (total ws) (2 * k * range_weight S ws j) e in
      absurd (omega (arith, ap (λ w. 2 * k * w) nothing)))
]

pub touching_sound : FinderSound touching_finder
touching_sound S k ws ms asked is =
    let t = touched S k ws in
    let n = S.points in
    record {
      long = ap length is ∙ marks_long t n;
      bits = λ p l. rw is (marks_bits t n p l);
      hits = λ j l heavy-j.
          let held = heavy_holds S k ws j heavy-j in
          let p = held.0 in
          let touched-p = any_found (touched_by S k ws p) S.ranges j l (and_from _ _ held.2 heavy-j) in
          (p, ap (λ x. marked x p) is ∙ marks_marked t n p held.1 ∙ touched-p, held.2);
      few = rw (ap chosen is ∙ marks_chosen t n) (count_le t n);
    }

-- one more mark is written
pub mark_more : (t : ℕ → Bool) (ms : List ℕ) (p byte : ℕ) (b : Bool) → p < length ms → byte ≡ bool_byte b → b ≡ t p
    → ((q : ℕ) → q < p → slice_index ms q ≡ cond (t q) 1 0) → (q : ℕ) → q < p + 1 → slice_index (slice_set ms p byte) q ≡ cond (t q) 1 0
mark_more t ms p byte b l is here before q m =
    ap (λ x. slice_index (slice_set ms p x) q) (is ∙ byte_bit b ∙ ap (λ x. cond x 1 0) here) ∙ fill_by_more (λ i. cond (t i) 1 0) ms p 0 l before q m

-- all marks are written and counted
pub marks_done : (t : ℕ → Bool) (ms : List ℕ) (n p count : ℕ) → length ms ≡ n → p ≡ n → count ≡ count_below t p
    → ((q : ℕ) → q < p → slice_index ms q ≡ cond (t q) 1 0) → (ms ≡ marks_of t n) × (count ≡ chosen ms)
marks_done t ms n p count long end counted written =
    let is : ms ≡ marks_of t n = fill_by_all (λ q. cond (t q) 1 0) ms n 0 long (λ q l. written q (omega arith)) in
    (is, counted ∙ ap (count_below t) end ∙ sym (ap chosen is ∙ marks_chosen t n))
