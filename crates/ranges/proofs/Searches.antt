-- The laws of searches over the numbers below n.
use Rattle.std.proofs.Common.{◌≡◌, ℕ, zero, suc, ◌+◌, ◌<◌, Bool, true, false, cond, ◌||◌, ◌⊎◌, Some, None, Decides, Option, sym, refl, ap, ◌∙◌, subst, inl, inr, eq-or-lt_of_le, add-one, arith}
use Rattle.std.proofs.lemmas.Bool.Decides.{Decides-below_or}
use Rattle.std.proofs.lemmas.Bool.{both_ways, cases_Bool, or_from}
use Rattle.ranges.specs.Below.{any_below, least_below, or_else}

pub any_none : (t : ℕ → Bool) → any_below t 0 ≡ false
any_none t = refl

any_suc : (t : ℕ → Bool) (n : ℕ) → any_below t (suc n) ≡ (t n || any_below t n)
any_suc t n = refl

-- the test says whether there is one
pub any_decides : (t : ℕ → Bool) (n : ℕ) → Decides (any_below t n) ((i : ℕ) × (i < n) × (t i ≡ true))
any_decides t n = Decides-below_or t (λ i. t i ≡ true) (any_below t) (λ i. ((λ e. e), (λ e. e))) (any_none t) (any_suc t) n

pub any_found : (t : ℕ → Bool) (n i : ℕ) → i < n → t i ≡ true → any_below t n ≡ true
any_found t n i l e = (any_decides t n).1 (i, l, e)

pub any_absent : (t : ℕ → Bool) (n : ℕ) → any_below t n ≡ false → (i : ℕ) → i < n → t i ≡ false
any_absent t n none i l =
    elim (cases_Bool (t i)) [ inl e ↦ absurd (both_ways (any_below t n) none (any_found t n i l e)) | inr e ↦ e ]

pub any_not : (t : ℕ → Bool) (n : ℕ) → ((i : ℕ) → i < n → t i ≡ false) → any_below t n ≡ false
any_not t zero h = any_none t
any_not t (suc n) h =
    any_suc t n ∙ or_from (t n) (any_below t n) (h n (omega arith)) (any_not t n (λ i l. h i (omega arith)))

pub any_same : (t u : ℕ → Bool) (n : ℕ) → ((i : ℕ) → i < n → t i ≡ u i) → any_below t n ≡ any_below u n
any_same t u zero h = any_none t ∙ sym (any_none u)
any_same t u (suc n) h =
    let here = h n (omega arith) in
    let before = any_same t u n (λ i l. h i (omega arith)) in
    let a = any_suc t n in
    let b = any_suc u n in
    cc

pub least_none : (t : ℕ → Bool) → least_below t 0 ≡ None
least_none t = refl

least_suc : (t : ℕ → Bool) (n : ℕ) → least_below t (suc n) ≡ or_else (least_below t n) (cond (t n) (Some n) None)
least_suc t n = refl

-- none so far, and not here
pub least_passed : (t : ℕ → Bool) (n : ℕ) → least_below t n ≡ None → t n ≡ false → least_below t (n + 1) ≡ None
least_passed t n before here = rw add-one (least_suc t n ∙ ap (λ o. or_else o (cond (t n) (Some n) None)) before ∙ ap (λ b. cond b (Some n) None) here)

-- none below n passes
pub least_not : (t : ℕ → Bool) (n : ℕ) → ((i : ℕ) → i < n → t i ≡ false) → least_below t n ≡ None
least_not t zero h = least_none t
least_not t (suc n) h = subst (λ (m : ℕ). least_below t m ≡ None) (add-one n) (least_passed t n (least_not t n (λ i l. h i (omega arith))) (h n (omega arith)))

-- none so far, and here: the answer, however many numbers follow
pub least_here : (t : ℕ → Bool) (i n : ℕ) → i < n → least_below t i ≡ None → t i ≡ true → least_below t n ≡ Some i
least_here t i zero l before here = absurd (omega arith)
least_here t i (suc n) l before here =
    elim (eq-or-lt_of_le l) [
      | inl e ↦ (let at : n ≡ i = omega arith in rw at (least_suc t i ∙ ap (λ o. or_else o (cond (t i) (Some i) None)) before ∙ ap (λ b. cond b (Some i) None) here))
      | inr m ↦ least_suc t n ∙ ap (λ o. or_else o (cond (t n) (Some n) None)) (least_here t i n (omega arith) before here)
    ]

or_else_none : (o : Option ℕ) (b : Bool) (n : ℕ) → or_else o (cond b (Some n) None) ≡ None → (o ≡ None) × (b ≡ false)
or_else_none (Some m) b n e = let z : ◌≡◌ {A = ℕ} 0 1 = cc in absurd (omega arith)
or_else_none None true n e = let z : ◌≡◌ {A = ℕ} 0 1 = cc in absurd (omega arith)
or_else_none None false n e = (refl, refl)

or_else_some : (o : Option ℕ) (b : Bool) (n i : ℕ) → or_else o (cond b (Some n) None) ≡ Some i → (o ≡ Some i) ⊎ ((o ≡ None) × (b ≡ true) × (n ≡ i))
or_else_some (Some m) b n i e = inl e
or_else_some None true n i e = inr (refl, refl, (cc))
or_else_some None false n i e = let z : ◌≡◌ {A = ℕ} 0 1 = cc in absurd (omega arith)

-- no answer: none passes
pub least_absent : (t : ℕ → Bool) (n : ℕ) → least_below t n ≡ None → (i : ℕ) → i < n → t i ≡ false
least_absent t zero e i l = absurd (omega arith)
least_absent t (suc n) e i l =
    let parts = or_else_none (least_below t n) (t n) n e in
    elim (eq-or-lt_of_le l) [
      | inl here ↦ (let at : i ≡ n = omega arith in rw at parts.1)
      | inr below ↦ least_absent t n parts.0 i (omega arith)
    ]

-- the answer is below n and passes, and none below it does
pub least_some : (t : ℕ → Bool) (n i : ℕ) → least_below t n ≡ Some i → (i < n) × (t i ≡ true) × ((j : ℕ) → j < i → t j ≡ false)
least_some t zero i e = let z : ◌≡◌ {A = ℕ} 0 1 = cc in absurd (omega arith)
least_some t (suc n) i e = elim (or_else_some (least_below t n) (t n) n i e) [
  | inl before ↦ (let found = least_some t n i before in (omega (arith, found.0), found.1, found.2))
  | inr here ↦ (omega (arith, here.2), subst (λ (m : ℕ). t m ≡ true) here.2 here.1, λ j l. least_absent t n here.0 j (omega (arith, here.2)))
]
