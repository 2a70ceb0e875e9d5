-- The best of the numbers below n.
use Rattle.std.specs.Prelude.{◌≡◌, ℕ, zero, suc, ◌+◌, ◌<◌, ◌≤◌, max, cond, nat_lt, refl}
use Rattle.std.proofs.Common.{sym, ap, ◌∙◌, inl, inr, eq-or-lt_of_le, add-one, arith}
use Rattle.std.proofs.lemmas.Bool.{cases_Bool, ltb-true, ltb-false, le-ltb, lt-ltb}
use Rattle.greedy.specs.Greedy.{best_below}

best_suc : (f : ℕ → ℕ) (n : ℕ) → best_below f (suc n) ≡ cond (nat_lt (f (best_below f n)) (f n)) n (best_below f n)
best_suc f n = refl

-- one number more, which is better, or is not
pub best_takes : (f : ℕ → ℕ) (n : ℕ) → f (best_below f n) < f n → best_below f (n + 1) ≡ n
best_takes f n l = rw add-one (best_suc f n ∙ ap (λ b. cond b n (best_below f n)) (lt-ltb (f (best_below f n)) (f n) l))

pub best_keeps : (f : ℕ → ℕ) (n : ℕ) → f n ≤ f (best_below f n) → best_below f (n + 1) ≡ best_below f n
best_keeps f n l = rw add-one (best_suc f n ∙ ap (λ b. cond b n (best_below f n)) (le-ltb (f (best_below f n)) (f n) l))

-- no number below n has a larger value
pub best_most : (f : ℕ → ℕ) (n p : ℕ) → p < n → f p ≤ f (best_below f n)
best_most f zero p l = absurd (omega arith)
best_most f (suc n) p l = elim (cases_Bool (nat_lt (f (best_below f n)) (f n))) [
  | inl e ↦ (
      let at = ap f (best_suc f n ∙ ap (λ b. cond b n (best_below f n)) e) in
      elim (eq-or-lt_of_le l) [
        | inl same ↦ (let here : p ≡ n = omega arith in omega (arith, ap f here))
        | inr low ↦ omega (arith, best_most f n p (omega arith), ltb-true (f (best_below f n)) (f n) e)
      ]
      )
  | inr e ↦ (
      let at = ap f (best_suc f n ∙ ap (λ b. cond b n (best_below f n)) e) in
      elim (eq-or-lt_of_le l) [
        | inl same ↦ (let here : p ≡ n = omega arith in omega (arith, ap f here, ltb-false (f (best_below f n)) (f n) e))
        | inr low ↦ omega (arith, best_most f n p (omega arith))
      ]
      )
]

pub best_below_lem : (f : ℕ → ℕ) (n : ℕ) → 0 < n → best_below f n < n
best_below_lem f zero l = absurd (omega arith)
best_below_lem f (suc zero) l = elim (cases_Bool (nat_lt (f 0) (f 0))) [
  | inl e ↦ omega (arith, best_suc f 0 ∙ ap (λ b. cond b 0 0) e)
  | inr e ↦ omega (arith, best_suc f 0 ∙ ap (λ b. cond b 0 0) e)
]
best_below_lem f (suc (suc n)) l =
    let before = best_below_lem f (suc n) (omega arith) in
    elim (cases_Bool (nat_lt (f (best_below f (suc n))) (f (suc n)))) [
      | inl e ↦ omega (arith, best_suc f (suc n) ∙ ap (λ b. cond b (suc n) (best_below f (suc n))) e)
      | inr e ↦ omega (arith, best_suc f (suc n) ∙ ap (λ b. cond b (suc n) (best_below f (suc n))) e)
    ]

-- the largest value below n, 0 where there is none
abbrev pub largest_below : (ℕ → ℕ) → ℕ → ℕ
largest_below f zero = 0
largest_below f (suc n) = max (largest_below f n) (f n)

largest_suc : (f : ℕ → ℕ) (n : ℕ) → largest_below f (suc n) ≡ max (largest_below f n) (f n)
largest_suc f n = refl

pub largest_more : (f : ℕ → ℕ) (n : ℕ) → largest_below f (n + 1) ≡ max (largest_below f n) (f n)
largest_more f n = rw add-one (largest_suc f n)

-- it is the value of the best
pub largest_best : (f : ℕ → ℕ) (n : ℕ) → 0 < n → largest_below f n ≡ f (best_below f n)
largest_best f zero l = absurd (omega arith)
largest_best f (suc zero) l = elim (cases_Bool (nat_lt (f 0) (f 0))) [
  | inl e ↦ omega (arith, largest_suc f 0, ap f (best_suc f 0 ∙ ap (λ b. cond b 0 0) e))
  | inr e ↦ omega (arith, largest_suc f 0, ap f (best_suc f 0 ∙ ap (λ b. cond b 0 0) e))
]
largest_best f (suc (suc n)) l =
    let before = largest_best f (suc n) (omega arith) in
    elim (cases_Bool (nat_lt (f (best_below f (suc n))) (f (suc n)))) [
      | inl e ↦ omega (arith, largest_suc f (suc n), ltb-true _ _ e, ap f (best_suc f (suc n) ∙ ap (λ b. cond b (suc n) (best_below f (suc n))) e))
      | inr e ↦ omega (arith, largest_suc f (suc n), ltb-false _ _ e, ap f (best_suc f (suc n) ∙ ap (λ b. cond b (suc n) (best_below f (suc n))) e))
    ]

-- a loop that keeps the best so far: its step
pub best_step : (f : ℕ → ℕ) (n b m x : ℕ) → b ≡ best_below f n → m ≡ largest_below f n → x ≡ f n → cond (nat_lt m x) n b ≡ best_below f (n + 1)
best_step f zero b m x atBest at_most same = elim (cases_Bool (nat_lt m x)) [
  | inl e ↦ ap (λ t. cond t 0 b) e ∙ sym (start f)
  | inr e ↦ ap (λ t. cond t 0 b) e ∙ atBest ∙ sym (start f)
]
  where
    start : (f : ℕ → ℕ) → best_below f (0 + 1) ≡ 0
    start f = best_keeps f 0 (omega arith)
best_step f (suc n) b m x atBest at_most same =
    let large = largest_best f (suc n) (omega arith) in
    elim (cases_Bool (nat_lt m x)) [
      | inl e ↦ ap (λ t. cond t (suc n) b) e ∙ sym (best_takes f (suc n) (omega (arith, ltb-true m x e)))
      | inr e ↦ ap (λ t. cond t (suc n) b) e ∙ atBest ∙ sym (best_keeps f (suc n) (omega (arith, ltb-false m x e)))
    ]
