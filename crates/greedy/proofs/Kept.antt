-- What a call keeps from mark to mark.
use Rattle.std.proofs.Common.{◌≡◌, ℕ, zero, suc, ◌+◌, ◌-◌, ◌*◌, ◌<◌, ◌≤◌, Bool, true, false, cond, not, ◌&&◌, eqb, List, get_or, replicate, sym, refl, ap, ◌∙◌, subst, ap₂, inl, inr, mul-zero, arith}
use mathlib.Core.Path.{fun_ext}
use Rattle.std.proofs.lemmas.Bool.{cases_Bool}
use Rattle.std.proofs.lemmas.List.{ext_get_or, length-replicate, get_or-replicate}
use Rattle.ranges.specs.Below.{count_below, any_below}
use Rattle.ranges.specs.Spaces.{RangeSpace}
use Rattle.ranges.specs.Weights.{heavy, hit, hits_at, tabulated}
use Rattle.ranges.proofs.Sums.{count_le}
use Rattle.ranges.proofs.Searches.{any_not, any_absent}
use Rattle.nets.specs.Finders.{Asked}
use Rattle.greedy.specs.Greedy.{unhit, gain, best_below, best_point, adding, greedy_set, greedy_points}
use Rattle.greedy.specs.Flags.{bit, flagged, flag_gain, flag_best, lowered, taken, Known}
use Rattle.greedy.specs.Doubles.{count_same, count_none, count_some}
use Rattle.ranges.proofs.Marks.{marks_long, marks_at, marks_marked}
use Rattle.greedy.proofs.Overs.{tab_same}
use Rattle.greedy.specs.Runs.{stays, goes}
use Rattle.greedy.specs.Marks.{unhit_adding, left_adding, best_share}
use Rattle.greedy.proofs.Bytes.{taken_none, known_none}
use Rattle.greedy.specs.Law.{turns}

-- by the flags fs, the bytes ms, the u flags that are up and the c marks
pub record Kept (S : RangeSpace) (k : ℕ) (ws fs ms : List ℕ) (u c : ℕ) : Type 0 where
  pub flags : fs ≡ tabulated (λ j. bit (unhit S k ws (taken ms) j)) S.ranges
  pub left : u ≡ count_below (unhit S k ws (taken ms)) S.ranges
  pub made : c ≡ count_below (taken ms) S.points
  pub goal : greedy_set S k ws (S.points - c) (taken ms) ≡ greedy_points S k ws
  pub known : Known S fs ms

-- no range is hit by the empty set
unhit_none : (S : RangeSpace) (k : ℕ) (ws : List ℕ) → unhit S k ws (λ _. false) ≡ heavy S k ws
unhit_none S k ws = fun_ext (λ j. each (heavy S k ws j) (hit S (λ _. false) j) (any_not (hits_at S (λ _. false) j) S.points (λ i l. refl)))
  where
    each : (a b : Bool) → b ≡ false → (a && not b) ≡ a
    each true b e = ap not e
    each false b e = refl

pub kept_start : (S : RangeSpace) (k : ℕ) (ws fs ms : List ℕ) (u : ℕ) → fs ≡ tabulated (λ j. bit (heavy S k ws j)) S.ranges → u ≡ count_below (heavy S k ws) S.ranges → ms ≡ replicate S.points 254 → Kept S k ws fs ms u 0
kept_start S k ws fs ms u f l m =
    let none : taken ms ≡ (λ _. false) = ap taken m ∙ taken_none S.points in
    let all : unhit S k ws (taken ms) ≡ heavy S k ws = ap (unhit S k ws) none ∙ unhit_none S k ws in
    record {
      flags = f ∙ ap (λ t. tabulated (λ j. bit (t j)) S.ranges) (sym all);
      left = l ∙ ap (λ t. count_below t S.ranges) (sym all);
      made = sym (ap (λ P. count_below P S.points) none ∙ count_none (λ _. false) S.points (any_not (λ _. false) S.points (λ i l. refl)));
      goal = ap₂ (greedy_set S k ws) (omega arith) none;
      known = subst (λ (xs : List ℕ). Known S fs xs) (sym m) (known_none S fs);
    }

module _ (S : RangeSpace) (k : ℕ) (ws fs ms : List ℕ) (u c : ℕ) (asked : Asked S k ws) (kept : Kept S k ws fs ms u c) where
  flag_at : (j : ℕ) → j < S.ranges → get_or fs j 0 ≡ bit (unhit S k ws (taken ms) j)
  flag_at j l = ap (λ xs. get_or xs j 0) kept.flags ∙ marks_at (unhit S k ws (taken ms)) S.ranges j l

  flagged_at : (j : ℕ) → j < S.ranges → flagged fs j ≡ unhit S k ws (taken ms) j
  flagged_at j l = ap (λ xs. flagged xs j) kept.flags ∙ marks_marked (unhit S k ws (taken ms)) S.ranges j l

  -- the gain by the flags is the gain
  pub gain_same : flag_gain S fs ≡ gain S k ws (taken ms)
  gain_same = fun_ext (λ p. count_same (λ j. flagged fs j && S.holds j p) (λ j. unhit S k ws (taken ms) j && S.holds j p) S.ranges (λ j l. ap (λ b. b && S.holds j p) (flagged_at j l)))

  pub best_same : flag_best S fs ≡ best_point S k ws (taken ms)
  best_same = ap (λ f. best_below f S.points) gain_same

  -- some flag is up
  more : 0 < u → any_below (unhit S k ws (taken ms)) S.ranges ≡ true
  more pos = elim (cases_Bool (any_below (unhit S k ws (taken ms)) S.ranges)) [
    | inl e ↦ e
    | inr e ↦ absurd (omega (arith, kept.left, count_none (unhit S k ws (taken ms)) S.ranges e))
  ]

  -- the best gain is positive, and no larger than what is left
  pub gain_fits : flag_gain S fs (flag_best S fs) ≤ u
  gain_fits =
      omega (arith, kept.left, ap (λ f. f (flag_best S fs)) gain_same, left_adding S asked.within k ws (taken ms) (flag_best S fs))

  pub gain_some : 0 < u → 0 < flag_gain S fs (flag_best S fs)
  gain_some pos =
      some (2 * k) _ _ (best_share S asked.within k ws asked.long (taken ms) (more pos)) (ap₂ (λ f q. f q) gain_same best_same)
    where
      some : (a g v : ℕ) {h : ℕ} → v < a * g → h ≡ g → 0 < h
      some a zero v l e = absurd (omega (arith, mul-zero a))
      some a (suc g) v l e = omega arith

  pub one_more : 0 < u → c + 1 ≤ S.points
  unfolding turns
  one_more pos = omega (arith, kept.made, (turns S asked.within k ws asked.long).one (taken ms) (more pos), count_le (adding (taken ms) (best_point S k ws (taken ms))) S.points)

  pub kept_step : 0 < u → (fs' ms' : List ℕ) → fs' ≡ tabulated (lowered S (flag_best S fs) fs) S.ranges → taken ms' ≡ adding (taken ms) (flag_best S fs) → Known S fs' ms' → Kept S k ws fs' ms' (u - flag_gain S fs (flag_best S fs)) (c + 1)
  unfolding turns
  kept_step pos fs' ms' f m b =
      let next : taken ms' ≡ adding (taken ms) (best_point S k ws (taken ms)) = m ∙ ap (adding (taken ms)) best_same in
      let T = turns S asked.within k ws asked.long in
      let turn : suc (S.points - (c + 1)) ≡ S.points - c = omega (arith, one_more pos) in
      record {
        flags = f ∙ tab_same (lowered S (flag_best S fs) fs) (λ j. bit (unhit S k ws (taken ms') j)) S.ranges (λ j l.
            each (unhit S k ws (taken ms) j) (S.holds j (flag_best S fs)) (get_or fs j 0) (flag_at j l)
            ∙ sym (ap (λ P. bit (unhit S k ws P j)) m ∙ ap bit (unhit_adding S asked.within k ws (taken ms) (flag_best S fs) j)));
        left = omega (arith, kept.left, ap (λ h. h (flag_best S fs)) gain_same, left_adding S asked.within k ws (taken ms) (flag_best S fs), ap (λ P. count_below (unhit S k ws P) S.ranges) m);
        made = omega (arith, kept.made, T.one (taken ms) (more pos), ap (λ P. count_below P S.points) next);
        goal =
            ap (greedy_set S k ws (S.points - (c + 1))) next
            ∙ sym (goes T (S.points - (c + 1)) (taken ms) (more pos))
            ∙ ap (λ n. greedy_set S k ws n (taken ms)) turn
            ∙ kept.goal;
        known = b;
      }
    where
      each : (a h : Bool) (x : ℕ) → x ≡ bit a → cond (eqb x 1 && h) 0 x ≡ bit (a && not h)
      each true true x e = rw e
      each true false x e = rw e
      each false h x e = rw e

  -- no flag is up
  none_left : u ≡ 0 → any_below (unhit S k ws (taken ms)) S.ranges ≡ false
  none_left e = any_not (unhit S k ws (taken ms)) S.ranges (λ j l. elim (cases_Bool (unhit S k ws (taken ms) j)) [
    | inl up ↦ absurd (omega (arith, kept.left, count_some (unhit S k ws (taken ms)) S.ranges j l up))
    | inr down ↦ down
  ])

  pub kept_points : u ≡ 0 → taken ms ≡ greedy_points S k ws
  unfolding turns
  kept_points e = sym (stays (turns S asked.within k ws asked.long) (S.points - c) (taken ms) (none_left e)) ∙ kept.goal

  pub kept_count : u ≡ 0 → c ≡ count_below (greedy_points S k ws) S.points
  kept_count e = kept.made ∙ ap (λ P. count_below P S.points) (kept_points e)

  pub kept_flags : u ≡ 0 → fs ≡ replicate S.ranges 0
  kept_flags e =
      let long = marks_long (unhit S k ws (taken ms)) S.ranges in
      kept.flags
      ∙ ext_get_or 0 (tabulated (λ j. bit (unhit S k ws (taken ms) j)) S.ranges) (replicate S.ranges 0) (long ∙ sym (length-replicate S.ranges 0)) (λ j l.
      (let m : j < S.ranges = omega arith in
      marks_at (unhit S k ws (taken ms)) S.ranges j m ∙ ap bit (any_absent (unhit S k ws (taken ms)) S.ranges (none_left e) j m) ∙ sym (get_or-replicate S.ranges j 0 0 m)))
