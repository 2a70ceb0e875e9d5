-- The laws of sums and counts over the numbers below n.
use Rattle.std.proofs.Common.{◌≡◌, ℕ, zero, suc, ◌+◌, ◌*◌, ◌<◌, ◌≤◌, Bool, true, false, cond, ltb, sym, refl, ap, ◌∙◌, inl, inr, eq-or-lt_of_le, mul-add, add-one, arith}
use Rattle.std.proofs.lemmas.Bool.{cond_both, cases_Bool, lt-ltb, le-ltb}
use Rattle.ranges.specs.Below.{sum_below, count_below}

pub sum_none : (f : ℕ → ℕ) → sum_below f 0 ≡ 0
sum_none f = refl

pub sum_suc : (f : ℕ → ℕ) (n : ℕ) → sum_below f (suc n) ≡ sum_below f n + f n
sum_suc f n = refl

-- one number more
pub sum_more : (f : ℕ → ℕ) (n : ℕ) → sum_below f (n + 1) ≡ sum_below f n + f n
sum_more f n = rw add-one (sum_suc f n)

-- the first number apart from those behind it
pub sum_front : (f : ℕ → ℕ) (n : ℕ) → sum_below f (suc n) ≡ f 0 + sum_below (λ i. f (suc i)) n
sum_front f zero = omega (arith, sum_suc f 0, sum_none f, sum_none (λ i. f (suc i)))
sum_front f (suc n) = omega (arith, sum_front f n, sum_suc f (suc n), sum_suc (λ i. f (suc i)) n)

pub sum_le : (f g : ℕ → ℕ) (n : ℕ) → ((i : ℕ) → i < n → f i ≤ g i) → sum_below f n ≤ sum_below g n
sum_le f g zero h = omega (arith, sum_none f)
sum_le f g (suc n) h =
    let before = sum_le f g n (λ i l. h i (omega arith)) in
    omega (arith, sum_suc f n, sum_suc g n, h n (omega arith))

pub sum_same : (f g : ℕ → ℕ) (n : ℕ) → ((i : ℕ) → i < n → f i ≡ g i) → sum_below f n ≡ sum_below g n
sum_same f g zero h = sum_none f ∙ sym (sum_none g)
sum_same f g (suc n) h =
    let before = sum_same f g n (λ i l. h i (omega arith)) in
    omega (arith, sum_suc f n, sum_suc g n, h n (omega arith))

pub sum_add : (f g : ℕ → ℕ) (n : ℕ) → sum_below (λ i. f i + g i) n ≡ sum_below f n + sum_below g n
sum_add f g zero = omega (arith, sum_none (λ i. f i + g i), sum_none f, sum_none g)
sum_add f g (suc n) = omega (arith, sum_add f g n, sum_suc (λ i. f i + g i) n, sum_suc f n, sum_suc g n)

pub sum_mul : (c : ℕ) (f : ℕ → ℕ) (n : ℕ) → sum_below (λ i. c * f i) n ≡ c * sum_below f n
sum_mul c f zero = rw (sum_none f, sum_none (λ i. c * f i)) (omega arith)
sum_mul c f (suc n) = omega (arith, sum_mul c f n, sum_suc (λ i. c * f i) n, ap (λ x. c * x) (sum_suc f n), mul-add c (sum_below f n) (f n))

-- a sum of zeros
pub sum_zero : (f : ℕ → ℕ) (n : ℕ) → ((i : ℕ) → i < n → f i ≡ 0) → sum_below f n ≡ 0
sum_zero f zero h = sum_none f
sum_zero f (suc n) h = omega (arith, sum_suc f n, sum_zero f n (λ i l. h i (omega arith)), h n (omega arith))

-- a sum over fewer numbers
pub sum_fewer : (f : ℕ → ℕ) (m n : ℕ) → m ≤ n → sum_below f m ≤ sum_below f n
sum_fewer f m zero h = let z : m ≡ 0 = omega arith in rw z (omega arith)
sum_fewer f m (suc n) h =
    elim (eq-or-lt_of_le h) [ inl e ↦ rw e (omega arith) | inr l ↦ omega (arith, sum_fewer f m n (omega arith), sum_suc f n) ]

-- a part of a sum
pub sum_part : (f : ℕ → ℕ) (n i : ℕ) → i < n → f i ≤ sum_below f n
sum_part f n i h = omega (arith, sum_fewer f (suc i) n (omega arith), sum_suc f i)

-- a count is at most the number of places
pub count_le : (t : ℕ → Bool) (n : ℕ) → count_below t n ≤ n
count_le t zero = omega (arith, sum_none (λ i. cond (t i) 1 0))
count_le t (suc n) =
    let one : cond (t n) 1 0 ≤ 1 = cond_both (t n) 1 0 (λ x. x ≤ 1) (λ _. omega arith) (λ _. omega arith) in
    omega (arith, count_le t n, sum_suc (λ i. cond (t i) 1 0) n)

-- the count with a number that passes, and with one that does not
pub count_yes : (t : ℕ → Bool) (n : ℕ) → t n ≡ true → count_below t (suc n) ≡ count_below t n + 1
count_yes t n e = sum_suc (λ i. cond (t i) 1 0) n ∙ ap (λ b. count_below t n + cond b 1 0) e

pub count_no : (t : ℕ → Bool) (n : ℕ) → t n ≡ false → count_below t (suc n) ≡ count_below t n
count_no t n e = omega (arith, sum_suc (λ i. cond (t i) 1 0) n ∙ ap (λ b. count_below t n + cond b 1 0) e)

pub count_here : (t : ℕ → Bool) (n : ℕ) → t n ≡ true → count_below t (n + 1) ≡ count_below t n + 1
count_here t n e = rw add-one (count_yes t n e)

pub count_past : (t : ℕ → Bool) (n : ℕ) → t n ≡ false → count_below t (n + 1) ≡ count_below t n
count_past t n e = rw add-one (count_no t n e)

-- the test passes below c and nowhere else
pub count_front : (t : ℕ → Bool) (n c : ℕ) → c ≤ n → ((i : ℕ) → i < c → t i ≡ true) → ((i : ℕ) → c ≤ i → i < n → t i ≡ false) → count_below t n ≡ c
count_front t zero c few front rest = omega arith
count_front t (suc n) c few front rest =
    elim (eq-or-lt_of_le few) [
      | inl e ↦ omega (arith, count_yes t n (front n (omega arith)), count_front t n n (omega arith) (λ i l. front i (omega arith)) (λ i l m. absurd (omega arith)))
      | inr l ↦ omega (arith, count_no t n (rest n (omega arith) (omega arith)), count_front t n c (omega arith) front (λ i from below. rest i from (omega arith)))
    ]

-- a test that passes at every number before one where it passes holds just below its count
pub front_count : (t : ℕ → Bool) (n : ℕ) → ((i k : ℕ) → i ≤ k → k < n → t k ≡ true → t i ≡ true) → (p : ℕ) → p < n → t p ≡ ltb p (count_below t n)
front_count t zero closed p l = absurd (omega arith)
front_count t (suc n) closed p l =
    elim (cases_Bool (t n)) [
      | inl e ↦ (
          let all = count_front t (suc n) (suc n) (omega arith) (λ i m. closed i n (omega arith) (omega arith) e) (λ i from m. absurd (omega arith)) in
          closed p n (omega arith) (omega arith) e ∙ sym (ap (ltb p) all ∙ lt-ltb p (suc n) l))
      | inr e ↦ elim (eq-or-lt_of_le l) [
        | inl at ↦ (let is : p ≡ n = omega arith in rw is (e ∙ sym (ap (ltb n) (count_no t n e) ∙ le-ltb n _ (count_le t n))))
        | inr below ↦ front_count t n (λ i k le m. closed i k le (omega arith)) p (omega arith) ∙ ap (ltb p) (sym (count_no t n e))
      ]
    ]
