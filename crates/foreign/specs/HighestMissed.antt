-- The missed range with the highest number is missed, and where there is none every range is hit.
use Rattle.std.specs.Prelude.{◌≡◌, ℕ, zero, suc, ◌-◌, ◌<◌, Bool, true, false, cond, Some, None, Option, refl}
use Rattle.std.proofs.Common.{sym, subst, ◌∙◌, inl, inr, eq-or-lt_of_le, arith}
use Rattle.std.proofs.lemmas.Bool.{cases_Bool, cond-true, cond-false, not-false}
use Rattle.ranges.specs.Weights.{marked, missed, hit}
use Rattle.ranges.proofs.Hits.{hit_gives, missed_not}
use Rattle.nets.specs.Verifiers.{VerifierSound}
use Rattle.foreign.specs.Greatest.{greatest_below, highest_verifier}

-- what an answer over the numbers below n says
abbrev Last : (ℕ → Bool) → ℕ → Option ℕ → Type 0
Last t n None = (i : ℕ) → i < n → t i ≡ false
Last t n (Some b) = (b < n) × (t b ≡ true)

passed : (t : ℕ → Bool) (n : ℕ) (o : Option ℕ) → t n ≡ false → Last t n o → Last t (suc n) o
passed t n None e before = λ i l. elim (eq-or-lt_of_le l) [
  | inl at ↦ (let same : i ≡ n = omega arith in rw same e)
  | inr below ↦ before i (omega arith)
]
passed t n (Some b) e before = (omega (arith, before.0), before.1)

greatest : (t : ℕ → Bool) (n : ℕ) → Last t n (greatest_below t n)
greatest t zero = λ i l. absurd (omega arith)
greatest t (suc n) = elim (cases_Bool (t n)) [
  | inl e ↦ subst (Last t (suc n)) (sym (cond-true (t n) _ _ e)) (omega arith, e)
  | inr e ↦ subst (Last t (suc n)) (sym (cond-false (t n) _ _ e)) (passed t n (greatest_below t n) e (greatest t n))
]

-- a search from the end: the answer below j, by whether j - 1 passes
greatest_step : (t : ℕ → Bool) (j : ℕ) → 0 < j → greatest_below t j ≡ cond (t (j - 1)) (Some (j - 1)) (greatest_below t (j - 1))
greatest_step t zero some = absurd (omega arith)
greatest_step t (suc n) some = let same : suc n - 1 ≡ n = omega arith in rw same refl

pub greatest_here : (t : ℕ → Bool) (j : ℕ) → 0 < j → t (j - 1) ≡ true → greatest_below t j ≡ Some (j - 1)
greatest_here t j some e = greatest_step t j some ∙ cond-true (t (j - 1)) _ _ e

pub greatest_passed : (t : ℕ → Bool) (j : ℕ) → 0 < j → t (j - 1) ≡ false → greatest_below t j ≡ greatest_below t (j - 1)
greatest_passed t j some e = greatest_step t j some ∙ cond-false (t (j - 1)) _ _ e

pub highest_judged : VerifierSound highest_verifier
highest_judged S ms ws None within e =
    let none = subst (Last (missed S (marked ms)) S.ranges) (sym e) (greatest (missed S (marked ms)) S.ranges) in
    λ j l. hit_gives S within (marked ms) j (not-false (hit S (marked ms) j) (none j l))
highest_judged S ms ws (Some i) within e =
    let found = subst (Last (missed S (marked ms)) S.ranges) (sym e) (greatest (missed S (marked ms)) S.ranges) in
    (found.0, missed_not S within (marked ms) i found.1)
