-- The greedy set is a net within its bound.
use Rattle.std.specs.Prelude.{◌≡◌, ℕ, zero, suc, ◌+◌, ◌*◌, ◌^◌, ◌<◌, ◌≤◌, Bool, true, false, cond, List, length, refl}
use Rattle.std.proofs.Common.{sym, ap, subst, ◌∙◌, mul-add, arith}
use Rattle.std.proofs.Math.Logic.{inl, inr}
use Rattle.std.proofs.lemmas.Bool.{cases_Bool, and_from, not_from_false}
use Rattle.std.proofs.lemmas.Nat.{leading_length}
use Rattle.ranges.specs.Below.{count_below, any_below}
use Rattle.ranges.specs.Spaces.{RangeSpace, Within}
use Rattle.ranges.specs.Weights.{heavy, hit, Hits}
use Rattle.ranges.proofs.Sums.{count_le, sum_zero}
use Rattle.ranges.proofs.Searches.{any_decides}
use Rattle.ranges.proofs.Hits.{hit_gives}
use Rattle.nets.specs.Finders.{Asked, Net, FinderSound}
use Rattle.greedy.specs.Greedy.{unhit, gain, best_point, adding, greedy_set, greedy_points, greedy_net, greedy_bound, greedy_finder, digits}
use Rattle.ranges.proofs.Marks.{marks_long, marks_bits, marks_marked, marks_chosen}
use Rattle.greedy.specs.Doubles.{count_none, count_some}
use Rattle.greedy.specs.Runs.{Turns, all_done, few_turns}
use Rattle.greedy.specs.Marks.{left_adding, gain_new, made_adding, best_share}

-- a mark at each turn
unfoldable pub turns : (S : RangeSpace) → Within S → (k : ℕ) (ws : List ℕ) → length ws ≡ S.points → Turns (ℕ → Bool) (2 * k)
turns S within k ws long = record {
  left = λ P. count_below (unhit S k ws P) S.ranges;
  made = λ P. count_below P S.points;
  more = λ P. any_below (unhit S k ws P) S.ranges;
  next = λ P. adding P (best_point S k ws P);
  after = greedy_set S k ws;
  start = λ P. refl;
  turn = λ n P. refl;
  idle = λ P e. count_none (unhit S k ws P) S.ranges e;
  busy = λ P e. (let w = (any_decides (unhit S k ws P) S.ranges).0 e in count_some (unhit S k ws P) S.ranges w.0 w.1 w.2);
  one = λ P e. one P e;
  share = λ P e. share P e;
}
  where
    one : (P : ℕ → Bool) → any_below (unhit S k ws P) S.ranges ≡ true → count_below (adding P (best_point S k ws P)) S.points ≡ count_below P S.points + 1
    one P e =
        let s = best_share S within k ws long P e in
        let pos : 0 < gain S k ws P (best_point S k ws P) = some (2 * k) (gain S k ws P (best_point S k ws P)) (count_below (unhit S k ws P) S.ranges) s in
        let new = gain_new S within k ws P (best_point S k ws P) pos in
        made_adding S within P (best_point S k ws P) S.points new.0 new.1
      where
        some : (c g u : ℕ) → u < c * g → 0 < g
        some c zero u l = absurd (omega (arith, mul-add c 0 0))
        some c (suc g) u l = omega arith

    share : (P : ℕ → Bool) → any_below (unhit S k ws P) S.ranges ≡ true → count_below (unhit S k ws P) S.ranges + 2 * k * count_below (unhit S k ws (adding P (best_point S k ws P))) S.ranges < 2 * k * count_below (unhit S k ws P) S.ranges
    share P e =
        let s = best_share S within k ws long P e in
        let split = ap (λ x. 2 * k * x) (left_adding S within k ws P (best_point S k ws P)) ∙ mul-add (2 * k) (gain S k ws P (best_point S k ws P)) (count_below (unhit S k ws (adding P (best_point S k ws P))) S.ranges) in
        omega arith

module _ (S : RangeSpace) (k : ℕ) (ws : List ℕ) (asked : Asked S k ws) where
  pub greedy_hits : (j : ℕ) → j < S.ranges → heavy S k ws j ≡ true → Hits S (greedy_points S k ws) j
  unfolding turns
  greedy_hits j l h = elim (cases_Bool (hit S (greedy_points S k ws) j)) [
    | inl e ↦ hit_gives S asked.within (greedy_points S k ws) j e
    | inr e ↦ (
        let done = all_done (turns S asked.within k ws asked.long) S.points (λ P. count_le P S.points) S.points (λ _. false) (omega arith) in
        let some = count_some (unhit S k ws (greedy_points S k ws)) S.ranges j l (and_from _ _ h (not_from_false _ e)) in
        absurd (omega arith)
        )
  ]

  pub greedy_few : count_below (greedy_points S k ws) S.points ≤ greedy_bound S.points S.ranges k
  unfolding turns
  greedy_few =
      let len = leading_length 16 S.ranges (omega (arith, asked.within.few_ranges)) in
      let start = count_le (unhit S k ws (λ _. false)) S.ranges in
      let blank = sum_zero (λ p. cond false 1 0) S.points (λ p l. refl) in
      let same : digits S.ranges ≡ len.0 = omega (arith, len.1) in
      let fits : count_below (unhit S k ws (λ _. false)) S.ranges < 2 ^ digits S.ranges = rw same (omega (arith, len.2)) in
      let few = few_turns (turns S asked.within k ws asked.long) (omega (arith, asked.some)) (digits S.ranges) S.points (λ _. false) fits in
      omega (arith, few, count_le (greedy_points S k ws) S.points)

  pub greedy_net_lem : Net S k ws (greedy_bound S.points S.ranges k) (greedy_net S k ws)
  greedy_net_lem = record {
    long = marks_long (greedy_points S k ws) S.points;
    bits = marks_bits (greedy_points S k ws) S.points;
    hits = λ j l h. (
        let w = greedy_hits j l h in
        (w.0, marks_marked (greedy_points S k ws) S.points w.0 (asked.within.inside j w.0 w.2).1 ∙ w.1, w.2)
        );
    few = omega (arith, marks_chosen (greedy_points S k ws) S.points, greedy_few);
  }

pub greedy_sound : FinderSound greedy_finder
greedy_sound S k ws ms asked e = subst (λ (xs : List ℕ). Net S k ws (greedy_bound S.points S.ranges k) xs) (sym e) (greedy_net_lem S k ws asked)
