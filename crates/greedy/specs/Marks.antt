-- What one mark changes: which heavy ranges are left, and how many points are marked.
use Rattle.std.specs.Prelude.{◌≡◌, ℕ, ◌+◌, ◌*◌, ◌<◌, Bool, true, false, cond, not, ◌&&◌, ◌||◌, ◌⊎◌, List, length, ◌==◌, refl}
use Rattle.std.proofs.Common.{sym, ap, subst, ◌∙◌, inl, inr}
use Rattle.std.proofs.lemmas.Bool.{cases_Bool, both_ways, and_parts, not-true, or_cases, or_left, or_right, or_from, eq-eqb, eqb-true, ltb-true}
use Rattle.ranges.specs.Below.{sum_below, count_below, any_below}
use Rattle.ranges.specs.Spaces.{RangeSpace, Within}
use Rattle.ranges.specs.Weights.{weight_at, total, heavy, range_weight, hit, missed}
use Rattle.ranges.proofs.Sums.{sum_same, sum_add}
use Rattle.ranges.proofs.Searches.{any_decides}
use Rattle.ranges.proofs.Hits.{hit_from, hit_gives}
use Rattle.greedy.specs.Greedy.{unhit, gain, best_point, adding}
use Rattle.greedy.specs.Doubles.{count_split, count_some, count_any, count_one, count_same}
use Rattle.greedy.specs.Shares.{some_share}
use Rattle.greedy.specs.Best.{best_most}

module _ (S : RangeSpace) (within : Within S) where
  pub hit_adding : (P : ℕ → Bool) (q j : ℕ) → hit S (adding P q) j ≡ (hit S P j || S.holds j q)
  hit_adding P q j = elim (cases_Bool (hit S P j)) [
    | inl e ↦ (
        let w = hit_gives S within P j e in
        hit_from S within (adding P q) j (w.0, or_left (P w.0) (w.0 == q) w.1, w.2) ∙ sym (or_left (hit S P j) (S.holds j q) e)
        )
    | inr e ↦ elim (cases_Bool (S.holds j q)) [
      | inl h ↦ hit_from S within (adding P q) j (q, or_right (P q) (q == q) (eq-eqb q q refl), h) ∙ sym (or_right (hit S P j) (S.holds j q) h)
      | inr h ↦ elim (cases_Bool (hit S (adding P q) j)) [
        | inr g ↦ g ∙ sym (or_from (hit S P j) (S.holds j q) e h)
        | inl g ↦ (
            let w = hit_gives S within (adding P q) j g in
            elim (or_cases (P w.0) (w.0 == q) w.1) [
              | inl i ↦ absurd (both_ways (hit S P j) e (hit_from S within P j (w.0, i, w.2)))
              | inr i ↦ absurd (both_ways (S.holds j q) h (subst (λ (p : ℕ). S.holds j p ≡ true) (eqb-true w.0 q i) w.2))
            ]
            )
      ]
    ]
  ]

  pub unhit_adding : (k : ℕ) (ws : List ℕ) (P : ℕ → Bool) (q j : ℕ) → unhit S k ws (adding P q) j ≡ (unhit S k ws P j && not (S.holds j q))
  unhit_adding k ws P q j =
      ap (λ b. heavy S k ws j && not b) (hit_adding P q j) ∙ each (heavy S k ws j) (hit S P j) (S.holds j q)
    where
      each : (a b c : Bool) → (a && not (b || c)) ≡ ((a && not b) && not c)
      each true true c = refl
      each true false c = refl
      each false b c = refl

  -- the ranges left before are those that the point hits and those left after
  pub left_adding : (k : ℕ) (ws : List ℕ) (P : ℕ → Bool) (q : ℕ) → count_below (unhit S k ws P) S.ranges ≡ gain S k ws P q + count_below (unhit S k ws (adding P q)) S.ranges
  left_adding k ws P q =
      count_split (unhit S k ws P) (λ j. S.holds j q) S.ranges
      ∙ ap (λ x. gain S k ws P q + x) (sym (count_same (unhit S k ws (adding P q)) (λ j. unhit S k ws P j && not (S.holds j q)) S.ranges (λ j l. unhit_adding k ws P q j)))

  -- a point with a gain is one of the space, and not marked
  pub gain_new : (k : ℕ) (ws : List ℕ) (P : ℕ → Bool) (q : ℕ) → 0 < gain S k ws P q → (q < S.points) × (P q ≡ false)
  gain_new k ws P q pos =
      let w = count_any (λ j. unhit S k ws P j && S.holds j q) S.ranges pos in
      let parts = and_parts (unhit S k ws P w.0) (S.holds w.0 q) w.2 in
      let inside : q < S.points = (within.inside w.0 q parts.1).1 in
      let miss = not-true (hit S P w.0) (and_parts (heavy S k ws w.0) (missed S P w.0) parts.0).1 in (
        inside,
        elim (cases_Bool (P q)) [
          | inr e ↦ e
          | inl e ↦ absurd (both_ways (hit S P w.0) miss (hit_from S within P w.0 (q, e, parts.1)))
        ],
      )

  -- one more point is marked
  pub made_adding : (P : ℕ → Bool) (q n : ℕ) → q < n → P q ≡ false → count_below (adding P q) n ≡ count_below P n + 1
  made_adding P q n l e =
      sum_same (λ p. cond (adding P q p) 1 0) (λ p. cond (P p) 1 0 + cond (p == q) 1 0) n (λ p m. each p (cases_Bool (p == q)))
      ∙ sum_add (λ p. cond (P p) 1 0) (λ p. cond (p == q) 1 0) n
      ∙ ap (λ x. count_below P n + x) (count_one n q l)
    where
      each : (p : ℕ) → ((p == q) ≡ true) ⊎ ((p == q) ≡ false) → cond (P p || p == q) 1 0 ≡ cond (P p) 1 0 + cond (p == q) 1 0
      each p (inl s) =
          let here : P p ≡ false = ap P (eqb-true p q s) ∙ e in
          rw (here, s)
      each p (inr d) = rw d (other (P p))
        where
          other : (b : Bool) → cond (b || false) 1 0 ≡ cond b 1 0 + 0
          other true = refl
          other false = refl

  -- a heavy range that is left gives the best point a share of them
  pub best_share : (k : ℕ) (ws : List ℕ) → length ws ≡ S.points → (P : ℕ → Bool) → any_below (unhit S k ws P) S.ranges ≡ true
      → count_below (unhit S k ws P) S.ranges < 2 * k * gain S k ws P (best_point S k ws P)
  best_share k ws long P e =
      some_share S.points S.ranges (weight_at ws) (unhit S k ws P) S.holds (2 * k) (gain S k ws P (best_point S k ws P)) (total ws)
      (ap (λ n. sum_below (weight_at ws) n) (sym long))
      (λ j l h. ltb-true (total ws) (2 * k * range_weight S ws j) (and_parts (heavy S k ws j) (missed S P j) h).0)
      (λ p l. best_most (gain S k ws P) S.points p l)
      (let w = (any_decides (unhit S k ws P) S.ranges).0 e in count_some (unhit S k ws P) S.ranges w.0 w.1 w.2)
