-- The laws of the number with the least value.
use Rattle.std.proofs.Common.{◌≡◌, ℕ, zero, suc, ◌<◌, ◌≤◌, Bool, true, false, ltb, ◌⊎◌, Some, None, Option, sym, subst, inl, inr, eq-or-lt_of_le, arith}
use Rattle.std.proofs.lemmas.Bool.{both_ways, cases_Bool, ltb-true, ltb-false, cond-true, cond-false}
use Rattle.ranges.specs.Below.{lower_of, least_by}

-- what an answer over the numbers below n says
abbrev Least : (ℕ → Bool) → (ℕ → ℕ) → ℕ → Option ℕ → Type 0
Least t w n None = (i : ℕ) → i < n → t i ≡ false
Least t w n (Some b) = (b < n) × (t b ≡ true) × ((i : ℕ) → i < n → t i ≡ true → (w b ≤ w i) × (i < b → w b < w i))

module _ (t : ℕ → Bool) (w : ℕ → ℕ) (n : ℕ) where
  passed_by : (o : Option ℕ) → t n ≡ false → Least t w n o → Least t w (suc n) o
  passed_by None e before = λ i l. elim (eq-or-lt_of_le l) [ inl at ↦ (let same : i ≡ n = omega arith in rw same e) | inr below ↦ before i (omega arith) ]
  passed_by (Some b) e before = (
    omega (arith, before.0),
    before.1,
    λ i l p. elim (eq-or-lt_of_le l) [
      | inl at ↦ (let same : i ≡ n = omega arith in absurd (both_ways (t n) e (subst (λ (m : ℕ). t m ≡ true) same p)))
      | inr below ↦ before.2 i (omega arith) p
    ],
  )

  taken : (o : Option ℕ) → t n ≡ true → Least t w n o → Least t w (suc n) (lower_of w o n)
  taken None e before = (
    omega arith,
    e,
    λ i l p. elim (eq-or-lt_of_le l) [
      | inl at ↦ (let same : i ≡ n = omega arith in (rw same (omega arith), λ b. absurd (omega arith)))
      | inr below ↦ absurd (both_ways (t i) (before i (omega arith)) p)
    ],
  )
  taken (Some b) e before = by_test (cases_Bool (ltb (w n) (w b)))
    where
      by_test : (ltb (w n) (w b) ≡ true) ⊎ (ltb (w n) (w b) ≡ false) → Least t w (suc n) (lower_of w (Some b) n)
      by_test (inl less) =
          let l = ltb-true (w n) (w b) less in
          subst (Least t w (suc n)) (sym (cond-true (ltb (w n) (w b)) (Some n) (Some b) less)) (
            omega arith,
            e,
            λ i l₂ p. elim (eq-or-lt_of_le l₂) [
              | inl at ↦ (let same : i ≡ n = omega arith in (rw same (omega arith), λ below. absurd (omega arith)))
              | inr below ↦ (let old = before.2 i (omega arith) p in (omega (arith, old.0), λ _. omega (arith, old.0)))
            ],
          )
      by_test (inr no_less) =
          let le = ltb-false (w n) (w b) no_less in
          subst (Least t w (suc n)) (sym (cond-false (ltb (w n) (w b)) (Some n) (Some b) no_less)) (
            omega (arith, before.0),
            before.1,
            λ i l₂ p. elim (eq-or-lt_of_le l₂) [
              | inl at ↦ (let same : i ≡ n = omega arith in (rw same le, λ below. absurd (omega (arith, before.0))))
              | inr below ↦ before.2 i (omega arith) p
            ],
          )

least_by_lem : (t : ℕ → Bool) (w : ℕ → ℕ) (n : ℕ) → Least t w n (least_by t w n)
least_by_lem t w zero = λ i l. absurd (omega arith)
least_by_lem t w (suc n) = elim (cases_Bool (t n)) [
  | inl e ↦ subst (Least t w (suc n)) (sym (cond-true (t n) _ _ e)) (taken t w n (least_by t w n) e (least_by_lem t w n))
  | inr e ↦ subst (Least t w (suc n)) (sym (cond-false (t n) _ _ e)) (passed_by t w n (least_by t w n) e (least_by_lem t w n))
]

-- no answer: none passes
pub least_by_none : (t : ℕ → Bool) (w : ℕ → ℕ) (n : ℕ) → least_by t w n ≡ None → (i : ℕ) → i < n → t i ≡ false
least_by_none t w n e = subst (Least t w n) e (least_by_lem t w n)

-- an answer passes, none that passes has less, and none before it has as little
pub least_by_some : (t : ℕ → Bool) (w : ℕ → ℕ) (n b : ℕ) → least_by t w n ≡ Some b → (b < n) × (t b ≡ true) × ((i : ℕ) → i < n → t i ≡ true → (w b ≤ w i) × (i < b → w b < w i))
least_by_some t w n b e = subst (Least t w n) e (least_by_lem t w n)
