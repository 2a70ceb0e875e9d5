-- Sums of sums, and counts split by a test.
use Rattle.std.specs.Prelude.{◌≡◌, ℕ, zero, suc, ◌+◌, ◌*◌, ◌<◌, Bool, true, false, cond, not, ◌&&◌, ◌==◌, ◌≢◌, nat_eq, refl}
use Rattle.std.proofs.Common.{sym, ap, ◌∙◌, inl, inr, mul-zero, mul-one, arith}
use Rattle.std.proofs.lemmas.Bool.{cases_Bool, cases_eq, cases_lt, eq-eqb, ne_eqb}
use Rattle.ranges.specs.Below.{sum_below, count_below, any_below}
use Rattle.ranges.proofs.Sums.{sum_none, sum_suc, sum_same, sum_add, sum_zero, sum_mul, sum_part}
use Rattle.ranges.proofs.Searches.{any_decides, any_absent}

-- the sums over one number and over the other can be taken in either order
pub sum_swap : (f : ℕ → ℕ → ℕ) (m n : ℕ) → sum_below (λ i. sum_below (f i) m) n ≡ sum_below (λ j. sum_below (λ i. f i j) n) m
sum_swap f m zero = sum_none (λ i. sum_below (f i) m) ∙ sym (sum_zero (λ j. sum_below (λ i. f i j) 0) m (λ j l. sum_none (λ i. f i j)))
sum_swap f m (suc n) =
    sum_suc (λ i. sum_below (f i) m) n ∙ ap (λ x. x + sum_below (f n) m) (sum_swap f m n)
    ∙ sym (sum_same (λ j. sum_below (λ i. f i j) (suc n)) (λ j. sum_below (λ i. f i j) n + f n j) m (λ j l. sum_suc (λ i. f i j) n)
    ∙ sum_add (λ j. sum_below (λ i. f i j) n) (f n) m)

-- a count is of those that pass a second test and those that fail it
pub count_split : (t u : ℕ → Bool) (n : ℕ) → count_below t n ≡ count_below (λ i. t i && u i) n + count_below (λ i. t i && not (u i)) n
count_split t u n =
    sum_same (λ i. cond (t i) 1 0) (λ i. cond (t i && u i) 1 0 + cond (t i && not (u i)) 1 0) n (λ i l. each (t i) (u i))
    ∙ sum_add (λ i. cond (t i && u i) 1 0) (λ i. cond (t i && not (u i)) 1 0) n
  where
    each : (a b : Bool) → cond a 1 0 ≡ cond (a && b) 1 0 + cond (a && not b) 1 0
    each true true = refl
    each true false = refl
    each false b = refl

-- none counted, none passes
pub count_none : (t : ℕ → Bool) (n : ℕ) → any_below t n ≡ false → count_below t n ≡ 0
count_none t n e = sum_zero (λ i. cond (t i) 1 0) n (λ i l. ap (λ b. cond b 1 0) (any_absent t n e i l))

pub count_some : (t : ℕ → Bool) (n i : ℕ) → i < n → t i ≡ true → 0 < count_below t n
count_some t n i l e = omega (arith, sum_part (λ j. cond (t j) 1 0) n i l, ap {B = ℕ} (λ b. cond b 1 0) e)

-- a sum over those that pass, of one number
pub sum_const : (c : ℕ) (t : ℕ → Bool) (n : ℕ) → sum_below (λ i. cond (t i) c 0) n ≡ c * count_below t n
sum_const c t n =
    sum_same (λ i. cond (t i) c 0) (λ i. c * cond (t i) 1 0) n (λ i l. each (t i)) ∙ sum_mul c (λ i. cond (t i) 1 0) n
  where
    each : (b : Bool) → cond b c 0 ≡ c * cond b 1 0
    each true = sym (mul-one c)
    each false = sym (mul-zero c)

pub count_same : (t u : ℕ → Bool) (n : ℕ) → ((i : ℕ) → i < n → t i ≡ u i) → count_below t n ≡ count_below u n
count_same t u n h = sum_same (λ i. cond (t i) 1 0) (λ i. cond (u i) 1 0) n (λ i l. ap (λ b. cond b 1 0) (h i l))

-- something counted, something passes
pub count_any : (t : ℕ → Bool) (n : ℕ) → 0 < count_below t n → (i : ℕ) × (i < n) × (t i ≡ true)
count_any t n pos = elim (cases_Bool (any_below t n)) [
  | inl e ↦ (any_decides t n).0 e
  | inr e ↦ absurd (omega (arith, count_none t n e))
]

-- the count of a test that only one number passes
pub count_one : (n q : ℕ) → q < n → count_below (λ i. nat_eq i q) n ≡ 1
count_one zero q l = absurd (omega arith)
count_one (suc n) q l = elim (cases_eq n q) [
  | inl e ↦ omega (arith, sum_suc (λ i. cond (i == q) 1 0) n, ap {B = ℕ} (λ b. cond b 1 0) (eq-eqb n q e), sum_zero (λ i. cond (i == q) 1 0) n (λ i m. ap (λ b. cond b 1 0) (ne_eqb i q (λ d. omega arith))))
  | inr d ↦ (let m : q < n = omega (arith, cases_lt q n) in omega (arith, sum_suc (λ i. cond (i == q) 1 0) n, ap {B = ℕ} (λ b. cond b 1 0) (ne_eqb n q d), count_one n q m))
]

-- two tests that differ at one number at most, which fails the second
pub count_but : (t u : ℕ → Bool) (n i : ℕ) → i < n → ((j : ℕ) → (j ≢ i) → t j ≡ u j) → u i ≡ false → count_below t n ≡ count_below u n + cond (t i) 1 0
count_but t u zero i l same fails = absurd (omega arith)
count_but t u (suc n) i l same fails = elim (cases_eq n i) [
  | inl e ↦ omega (
    arith,
    sum_suc (λ j. cond (t j) 1 0) n,
    sum_suc (λ j. cond (u j) 1 0) n,
    ap {B = ℕ} (λ j. cond (t j) 1 0) e,
    ap {B = ℕ} (λ j. cond (u j) 1 0) e,
    ap {B = ℕ} (λ b. cond b 1 0) fails,
    count_same t u n (λ j m. same j (λ d. omega arith)),
  )
  | inr d ↦ (
      let m : i < n = omega (arith, cases_lt i n) in
      omega (
        arith,
        sum_suc (λ j. cond (t j) 1 0) n,
        sum_suc (λ j. cond (u j) 1 0) n,
        ap {B = ℕ} (λ b. cond b 1 0) (same n d),
        count_but t u n i m same fails,
      )
      )
]
