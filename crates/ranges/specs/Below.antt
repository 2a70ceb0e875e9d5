-- Sums, counts and searches over the numbers below n.
use Rattle.std.specs.Prelude.{ℕ, zero, suc, ◌+◌, Bool, false, cond, ◌||◌, Some, None, Option, nat_lt}

-- the sum of f over the numbers below n
abbrev pub sum_below : (ℕ → ℕ) → ℕ → ℕ
sum_below f zero = 0
sum_below f (suc n) = sum_below f n + f n

-- how many numbers below n pass the test
abbrev pub count_below : (ℕ → Bool) → ℕ → ℕ
count_below t n = sum_below (λ i. cond (t i) 1 0) n

-- whether some number below n passes the test
abbrev pub any_below : (ℕ → Bool) → ℕ → Bool
any_below t zero = false
any_below t (suc n) = t n || any_below t n

abbrev pub or_else : Option ℕ → Option ℕ → Option ℕ
or_else None o = o
or_else (Some j) o = Some j

-- the least number below n that passes the test
abbrev pub least_below : (ℕ → Bool) → ℕ → Option ℕ
least_below t zero = None
least_below t (suc n) = or_else (least_below t n) (cond (t n) (Some n) None)

-- the lower in w of two numbers, the earlier among equals
abbrev pub lower_of : (ℕ → ℕ) → Option ℕ → ℕ → Option ℕ
lower_of w None n = Some n
lower_of w (Some b) n = cond (nat_lt (w n) (w b)) (Some n) (Some b)

-- of the numbers below n that pass the test, the one with the least w, the lowest among equals
abbrev pub least_by : (ℕ → Bool) → (ℕ → ℕ) → ℕ → Option ℕ
least_by t w zero = None
least_by t w (suc n) = cond (t n) (lower_of w (least_by t w n) n) (least_by t w n)
