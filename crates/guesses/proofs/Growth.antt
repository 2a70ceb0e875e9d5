-- How far the total of the weights can grow.
use Rattle.std.proofs.Common.{◌≡◌, ℕ, zero, suc, ◌+◌, ◌-◌, ◌*◌, ◌^◌, ◌<◌, ◌≤◌, ap, ◌∙◌, mul-le-mul_right, mul-le-mul, mul-le-mul_left, mul-lt-mul_of_pos_right, mul-pos, pow-suc, le_of_mul-le-mul_right, arith, pow_pos, pow_mono, pow-add}
use native.Mathlib.Nat.{pow-zero, le_of_mul-le-mul_left, pow-le-pow_left}
use Rattle.guesses.specs.Limits.{fourth, doublings_of, limit_of}
use Rattle.guesses.proofs.Limits.{fourth_most, doublings_least, doublings_few}
use Rattle.guesses.proofs.Powers.{pow_mul, mul_pow, pow_above_zero, fourth_mul, fourth_mono, fourth_mono_inverse, fourth_pow}

-- four m cubed times the growth of j steps, from above
abbrev grown : ℕ → ℕ → ℕ
grown m j = 4 * (m * m * m) + 4 * j * (m * m) + 2 * (j * j) * m + j * j * j

one_step : (m j : ℕ) → j ≤ m → grown m j * (m + 1) ≤ m * grown m (j + 1)
one_step m j h = omega (arith, mul-le-mul_right (j * j) h)

pub growth_step : (m j : ℕ) → j ≤ m → 4 * (m * m * m) * (m + 1) ^ j ≤ m ^ j * (4 * (m * m * m) + 4 * j * (m * m) + 2 * (j * j) * m + j * j * j)
growth_step m zero h = rw (pow-zero m, pow-zero (m + 1)) (omega arith)
growth_step m (suc j) h =
    let ih = growth_step m j (omega arith) in
    let more = mul-le-mul_right (m + 1) ih in
    let step = mul-le-mul_left (m ^ j) (one_step m j (omega arith)) in
    rw (pow-suc (m + 1) j, pow-suc m j) (omega arith)

-- at as many steps as m the growth is at most eleven quarters
pub growth_quarters : (m : ℕ) → 0 < m → 4 * (m + 1) ^ m ≤ 11 * m ^ m
growth_quarters m above =
    let all = growth_step m m (omega arith) in
    let cube : 0 < m * m * m = mul-pos (mul-pos above above) above in
    let wide : (m * m * m) * (4 * (m + 1) ^ m) ≤ (m * m * m) * (11 * m ^ m) = omega arith in
    le_of_mul-le-mul_left wide cube

-- twice as many steps multiply by at most eight
pub growth_eight : (m : ℕ) → 0 < m → (m + 1) ^ (2 * m) ≤ 8 * m ^ (2 * m)
growth_eight m above =
    let once = growth_quarters m above in
    let both = mul-le-mul once once in
    let two : 2 * m ≡ m + m = omega arith in
    rw (two, pow-add (m + 1) m m, pow-add m m m) (omega arith)

-- four times k rounds of a guess k multiply by at most eight, so t times as many by at most 2 ^ (3 * t)
pub growth_all : (k t : ℕ) → 0 < k → (2 * k + 1) ^ (4 * (k * t)) ≤ 2 ^ (3 * t) * (2 * k) ^ (4 * (k * t))
growth_all k t above =
    let once = growth_eight (2 * k) (omega arith) in
    let all = pow-le-pow_left once t in
    let e : 4 * (k * t) ≡ 2 * (2 * k) * t = omega arith in
    rw (e, pow_mul 2 3 t, pow_mul (2 * k + 1) (2 * (2 * k)) t, pow_mul (2 * k) (2 * (2 * k)) t, ← mul_pow 8 ((2 * k) ^ (2 * (2 * k))) t) all

-- a total that each of r rounds multiplied by at most (2 * k + 1) / (2 * k), while r is within k * t
pub growth : (n k r W t : ℕ) → 0 < k → W * (2 * k) ^ r ≤ n * (2 * k + 1) ^ r → r ≤ k * t → fourth W ≤ fourth n * 2 ^ (3 * t)
growth n k r W t above total within =
    let d = k * t - r in
    let e : k * t ≡ r + d = omega arith in
    let low : (2 * k) ^ d ≤ (2 * k + 1) ^ d = pow-le-pow_left (omega arith) d in
    let most = mul-le-mul total low in
    let whole : W * (2 * k) ^ (k * t) ≤ n * (2 * k + 1) ^ (k * t) = rw (e, pow-add (2 * k) r d, pow-add (2 * k + 1) r d) (omega arith) in
    let four = fourth_mono (W * (2 * k) ^ (k * t)) (n * (2 * k + 1) ^ (k * t)) whole in
    let left : fourth (W * (2 * k) ^ (k * t)) ≡ fourth W * (2 * k) ^ (4 * (k * t)) =
    fourth_mul W ((2 * k) ^ (k * t)) ∙ ap (λ x. fourth W * x) (fourth_pow (2 * k) (k * t)) in
    let right : fourth (n * (2 * k + 1) ^ (k * t)) ≡ fourth n * (2 * k + 1) ^ (4 * (k * t)) =
    fourth_mul n ((2 * k + 1) ^ (k * t)) ∙ ap (λ x. fourth n * x) (fourth_pow (2 * k + 1) (k * t)) in
    let grows = mul-le-mul_left (fourth n) (growth_all k t above) in
    let wide : fourth W * (2 * k) ^ (4 * (k * t)) ≤ fourth n * 2 ^ (3 * t) * (2 * k) ^ (4 * (k * t)) = omega arith in
    le_of_mul-le-mul_right wide (pow_above_zero (2 * k) (4 * (k * t)) (omega arith))

-- no total is above 2 ^ 49 while the doublings are within the limit
pub total_bound : (n k r W : ℕ) → 0 < k → k ≤ n → n ≤ 4096 → r ≤ limit_of n k → W * (2 * k) ^ r ≤ n * (2 * k + 1) ^ r → W ≤ 2 ^ 49
total_bound n k r W above within few limit total =
    let t = doublings_of n k in
    let grows = growth n k r W t above total limit in
    let rounds : 3 * t ≤ 147 = omega (arith, doublings_few n k above few) in
    let rate : 2 ^ (3 * t) ≤ 2 ^ 147 = pow_mono rounds in
    let most = mul-le-mul (fourth_most n few) rate in
    fourth_mono_inverse W (2 ^ 49) (omega arith)

fourth_held : (k t : ℕ) → fourth (k * 2 ^ t) ≡ 2 ^ t * fourth k * 2 ^ (3 * t)
fourth_held k t =
    let three : 3 * t ≡ t + (t + t) = omega arith in
    rw (three, pow-add 2 t (t + t), pow-add 2 t t) (omega arith)

-- a total that holds k times 2 ^ t at the limit's end cannot be
pub contradiction : (n k W : ℕ) → 0 < k → k ≤ n → n ≤ 4096 → W * (2 * k) ^ limit_of n k ≤ n * (2 * k + 1) ^ limit_of n k → k * 2 ^ doublings_of n k ≤ W → ⊥
contradiction n k W above within few total holds =
    let t = doublings_of n k in
    let grows = growth n k (limit_of n k) W t above total (omega arith) in
    let four = fourth_mono (k * 2 ^ t) W holds in
    let left = fourth_held k t in
    let enough = (doublings_least n k above few).enough in
    let more = mul-lt-mul_of_pos_right enough (pow_pos (3 * t)) in
    omega arith
