-- The limit of a guess: how many doublings it may take.
use Rattle.std.specs.Prelude.{◌≡◌, ℕ, zero, suc, ◌+◌, ◌*◌, ◌^◌, ◌<◌, ◌≤◌, Bool, cond, ◌||◌, Some, None, Option, ◌==◌, nat_lt}

-- how often p is doubled until it is above q, at most f times
unfoldable pub steps : ℕ → ℕ → ℕ → ℕ
steps zero p q = 0
steps (suc f) p q = cond (nat_lt q p) 0 (1 + steps f (p * 2) q)

abbrev pub fourth : ℕ → ℕ
fourth x = (x * x) * (x * x)

-- how often the fourth power of k is doubled until it is above that of n
abbrev pub doublings_of : ℕ → ℕ → ℕ
doublings_of n k = steps 64 (fourth k) (fourth n)

-- the limit of the guess k among n points
abbrev pub limit_of : ℕ → ℕ → ℕ
limit_of n k = k * doublings_of n k

-- t is the least whole number with 2 ^ t * k ^ 4 above n ^ 4
pub record LeastDoublings (n k t : ℕ) : Type 0 where
  pub enough : fourth n < 2 ^ t * fourth k
  pub least : (s : ℕ) → fourth n < 2 ^ s * fourth k → t ≤ s

-- k is not from 1 to n, or there are more than 4,096 points
abbrev pub is_no_guess : ℕ → ℕ → Bool
is_no_guess n k = k == 0 || (nat_lt n k || nat_lt 4096 n)

-- a guess from 1 to n, among at most 4,096 points, has a limit, and no other has
abbrev pub limit_if : ℕ → ℕ → Option ℕ
limit_if n k = cond (is_no_guess n k) None (Some (limit_of n k))

-- the limit counts the least doublings, which are few, stays within three for each point, and is not 0
abbrev pub LimitLaw : ℕ → ℕ → Type 0
LimitLaw n k =
    0 < k → k ≤ n → n ≤ 4096
    → LeastDoublings n k (doublings_of n k) × (doublings_of n k ≤ 49) × (limit_of n k ≤ 3 * n) × (0 < limit_of n k)

pub record WorkedLimits : Type 0 where
  pub one : limit_of 1 1 ≡ 1
  pub four_one : limit_of 4 1 ≡ 9
  pub four_two : limit_of 4 2 ≡ 10
  pub four_three : limit_of 4 3 ≡ 6
  pub four_four : limit_of 4 4 ≡ 4
  pub most_one : limit_of 4096 1 ≡ 49
  pub most_most : limit_of 4096 4096 ≡ 4096
