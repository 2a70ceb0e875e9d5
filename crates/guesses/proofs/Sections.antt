-- How the limits of a guess and of its halves lie to one another.
use Rattle.std.proofs.Common.{◌≡◌, ℕ, ◌+◌, ◌-◌, ◌*◌, ◌^◌, ◌<◌, ◌≤◌, refl, subst, inl, inr, mul-le-mul_right, mul-le-mul_left, arith, pow_mono, pow-add}
use Rattle.std.proofs.lemmas.Bool.{cases_lt}
use Rattle.guesses.specs.Limits.{fourth, doublings_of}
use Rattle.guesses.proofs.Powers.{fourth_mul, fourth_mono, fourth_mono_inverse, tried_below}
use Rattle.guesses.proofs.Limits.{doublings_least, doublings_few, doublings_some, doublings_below}

within_eleven : (n k s : ℕ) → 2 ^ s * fourth k ≤ fourth n → fourth (s + 5) ≤ 915 * 2 ^ s → 2 * k * (s + 5) ≤ 11 * n
within_eleven n k s low rate =
    let most = mul-le-mul_left (fourth k) rate in
    let left = fourth_mul (2 * k) (s + 5) in
    let twice = fourth_mul 2 k in
    let right = fourth_mul 11 n in
    fourth_mono_inverse (2 * k * (s + 5)) (11 * n) (omega arith)

-- a guess and its halves together fit in eleven lines for each point
pub sections_fit : (n k : ℕ) → 0 < k → k ≤ n → n ≤ 4096 → 2 * k * (doublings_of n k + 4) ≤ 11 * n
sections_fit n k above within few =
    let s = doublings_of n k - 1 in
    let is : doublings_of n k ≡ s + 1 = omega (arith, doublings_some n k within) in
    let low = doublings_below n k s above few is in
    let rate = tried_below 5 915 49 refl s (omega (arith, doublings_few n k above few)) in
    let five : doublings_of n k + 4 ≡ s + 5 = omega arith in
    rw five (within_eleven n k s low rate)

fourth_twice : (k : ℕ) → fourth (2 * k) ≡ 16 * fourth k
fourth_twice k = omega arith

at_least_four : (n k t : ℕ) → 2 * k ≤ n → fourth n < 2 ^ t * fourth k → 4 ≤ t
at_least_four n k t within enough =
    elim (cases_lt t 4) [
      | inl less ↦
          let low : t ≤ 4 = omega arith in
          let rate : 2 ^ t ≤ 2 ^ 4 = pow_mono low in
          let most = mul-le-mul_right (fourth k) rate in
          absurd (omega (arith, fourth_mono (2 * k) n within, fourth_twice k))
      | inr more ↦ more
    ]

half_enough : (n k u : ℕ) → fourth n < 2 ^ u * fourth (2 * k) → fourth n < 2 ^ (u + 4) * fourth k
half_enough n k u enough = rw (pow-add 2 u 4) (omega (arith, fourth_twice k))

whole_enough : (n k u : ℕ) → fourth n < 2 ^ (u + 4) * fourth k → fourth n < 2 ^ u * fourth (2 * k)
whole_enough n k u enough = let e = rw (pow-add 2 u 4) at enough in omega (arith, fourth_twice k)

-- half a guess takes four doublings more of each point
pub doublings_half : (n k : ℕ) → 0 < k → 2 * k ≤ n → n ≤ 4096 → doublings_of n k ≡ doublings_of n (2 * k) + 4
doublings_half n k above within few =
    let t = doublings_of n k in
    let u = doublings_of n (2 * k) in
    let whole = doublings_least n (2 * k) (omega arith) few in
    let half = doublings_least n k above few in
    let up : t ≤ u + 4 = half.least (u + 4) (half_enough n k u whole.enough) in
    let four : 4 ≤ t = at_least_four n k t within half.enough in
    let is : t ≡ (t - 4) + 4 = omega arith in
    let enough : fourth n < 2 ^ ((t - 4) + 4) * fourth k = subst (λ x. fourth n < 2 ^ x * fourth k) is half.enough in
    let down : u ≤ t - 4 = whole.least (t - 4) (whole_enough n k (t - 4) enough) in
    omega arith
