-- The least doublings of a guess, and its limit.
use Rattle.std.proofs.Common.{◌≡◌, ℕ, zero, suc, ◌+◌, ◌-◌, ◌*◌, ◌^◌, ◌<◌, ◌≤◌, cond, ltb, refl, inl, inr, ◌/◌, mul-le-mul_left, mul-le-mul_right, pow_mono, pow-add, mul-pos, pow-suc, one-add, arith}
use native.Mathlib.Nat.{pow-zero}
use Rattle.std.specs.Int.Count.{count_leading_zeros}
use Rattle.std.proofs.Math.Nat.{div-le_self, div-mul-le_self, mod-lt}
use Rattle.std.proofs.lemmas.Nat.{leading_length, div-add-mod'}
use Rattle.std.proofs.lemmas.Bool.{cases_lt}
use Rattle.std.proofs.lemmas.Bool.Decides.{nat_tests}
use Rattle.guesses.specs.Limits.{steps, fourth, doublings_of, limit_of, LeastDoublings, LimitLaw}
use Rattle.guesses.proofs.Powers.{fourth_mul, fourth_mono, fourth_pos, fourth_mono_inverse, tried_below}

pub steps_none : (p q : ℕ) → steps 0 p q ≡ 0
unfolding steps
steps_none p q = refl

step : (f p q : ℕ) → steps (suc f) p q ≡ cond (ltb q p) 0 (1 + steps f (p * 2) q)
unfolding steps
step f p q = refl

-- none is needed
pub steps_done : (f p q : ℕ) → q < p → steps f p q ≡ 0
steps_done zero p q above = steps_none p q
steps_done (suc f) p q above = let e = step f p q in grind (arith, nat_tests)

one_more : (f p q : ℕ) → p ≤ q → steps (suc f) p q ≡ 1 + steps f (p * 2) q
one_more f p q below = let e = step f p q in grind (arith, nat_tests)

-- with enough fuel the doublings go above q
pub steps_enough : (f p q : ℕ) → q < 2 ^ f * p → q < 2 ^ steps f p q * p
steps_enough zero p q fuel = rw (steps_none p q) fuel
steps_enough (suc f) p q fuel =
    elim (cases_lt q p) [
      | inl above ↦ rw (steps_done (suc f) p q above, pow-zero 2) (omega arith)
      | inr below ↦
          let twice : 2 ^ suc f * p ≡ 2 ^ f * (p * 2) = rw (pow-suc 2 f) (omega arith) in
          let ih = steps_enough f (p * 2) q (omega arith) in
          rw (one_more f p q below, one-add, pow-suc 2 (steps f (p * 2) q)) (omega arith)
    ]

-- no fewer doublings go above q
pub steps_least : (f p q s : ℕ) → q < 2 ^ s * p → steps f p q ≤ s
steps_least zero p q s enough = rw (steps_none p q) (omega arith)
steps_least (suc f) p q zero enough =
    let one = rw (pow-zero 2) at enough in
    rw (steps_done (suc f) p q (omega arith)) (omega arith)
steps_least (suc f) p q (suc s) enough =
    elim (cases_lt q p) [
      | inl above ↦ rw (steps_done (suc f) p q above) (omega arith)
      | inr below ↦
          let twice : 2 ^ suc s * p ≡ 2 ^ s * (p * 2) = rw (pow-suc 2 s) (omega arith) in
          let ih = steps_least f (p * 2) q s (omega arith) in
          rw (one_more f p q below) (omega arith)
    ]

-- p is doubled once for each binary digit of q / p
pub steps_digits : (p q : ℕ) → 0 < p → q < 2 ^ 64 → 64 - count_leading_zeros 64 (q / p) ≡ steps 64 p q
steps_digits p q some fits =
    let digits = leading_length 64 (q / p) (omega (arith, div-le_self q p)) in
    let m = digits.0 in
    let is : 64 - count_leading_zeros 64 (q / p) ≡ m = omega (arith, digits.1) in
    let least = mul-le-mul_right p digits.2 in
    let up : q < 2 ^ m * p = omega (arith, div-add-mod' q p, mod-lt q some) in
    let most = steps_least 64 p q m up in
    elim (cases_lt (steps 64 p q) m) [
      | inl less ↦
          let more : steps 64 p q + 1 ≤ m = omega arith in
          let twice : 2 ^ (steps 64 p q + 1) ≤ 2 ^ m = pow_mono more in
          let half : 2 ^ steps 64 p q ≤ q / p = omega (arith, pow-add 2 (steps 64 p q) 1, digits.3) in
          let low = mul-le-mul_right p half in
          absurd (omega (arith, steps_enough 64 p q (omega arith), div-mul-le_self q p))
      | inr all ↦ omega arith
    ]

pub fourth_most : (n : ℕ) → n ≤ 4096 → fourth n ≤ 2 ^ 48
fourth_most n few = fourth_mono n 4096 few

pub doublings_least : (n k : ℕ) → 0 < k → n ≤ 4096 → LeastDoublings n k (doublings_of n k)
doublings_least n k above few =
    record {
      enough = steps_enough 64 (fourth k) (fourth n) (omega (arith, fourth_most n few, fourth_pos k above));
      least = λ s. steps_least 64 (fourth k) (fourth n) s;
    }

pub doublings_few : (n k : ℕ) → 0 < k → n ≤ 4096 → doublings_of n k ≤ 49
doublings_few n k above few = steps_least 64 (fourth k) (fourth n) 49 (omega (arith, fourth_most n few, fourth_pos k above))

pub doublings_some : (n k : ℕ) → k ≤ n → 0 < doublings_of n k
doublings_some n k within = rw (one_more 63 (fourth k) (fourth n) (fourth_mono k n within)) (omega arith)

pub limit_pos : (n k : ℕ) → 0 < k → k ≤ n → 0 < limit_of n k
limit_pos n k above within = mul-pos above (doublings_some n k within)

-- one doubling fewer is not enough
pub doublings_below : (n k s : ℕ) → 0 < k → n ≤ 4096 → doublings_of n k ≡ s + 1 → 2 ^ s * fourth k ≤ fourth n
doublings_below n k s above few is =
    elim (cases_lt (fourth n) (2 ^ s * fourth k)) [
      | inl more ↦ absurd (omega (arith, (doublings_least n k above few).least s more))
      | inr less ↦ less
    ]

within_three : (n k s : ℕ) → 2 ^ s * fourth k ≤ fourth n → fourth (s + 1) ≤ 81 * 2 ^ s → k * (s + 1) ≤ 3 * n
within_three n k s low rate =
    let most = mul-le-mul_left (fourth k) rate in
    let left = fourth_mul k (s + 1) in
    let right = fourth_mul 3 n in
    fourth_mono_inverse (k * (s + 1)) (3 * n) (omega arith)

-- no limit is above three for each point
pub limit_le : (n k : ℕ) → 0 < k → k ≤ n → n ≤ 4096 → limit_of n k ≤ 3 * n
limit_le n k above within few =
    let s = doublings_of n k - 1 in
    let is : doublings_of n k ≡ s + 1 = omega (arith, doublings_some n k within) in
    let low = doublings_below n k s above few is in
    let rate = tried_below 1 81 49 refl s (omega (arith, doublings_few n k above few)) in
    rw is (within_three n k s low rate)

pub limit_law : (n k : ℕ) → LimitLaw n k
limit_law n k above within few = (doublings_least n k above few, doublings_few n k above few, limit_le n k above within few, limit_pos n k above within)
