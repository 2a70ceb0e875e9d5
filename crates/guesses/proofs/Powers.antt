-- Powers and fourth powers.
use Rattle.std.proofs.Common.{◌≡◌, ℕ, zero, suc, ◌+◌, ◌*◌, ◌^◌, ◌<◌, ◌≤◌, Bool, true, ◌&&◌, leb, sym, refl, ap, ◌∙◌, inl, inr, mul-le-mul, mul-pos, pow-suc, mul-zero, mul-suc, arith, pow-add}
use native.Mathlib.Nat.{pow-zero}
use Rattle.std.proofs.lemmas.Bool.{cases_lt, leb-true, le-leb}
use Rattle.std.proofs.lemmas.Bool.Decides.{Decides-below_and}
use Rattle.guesses.specs.Limits.{fourth}

pub pow_mul : (n i j : ℕ) → n ^ (i * j) ≡ (n ^ i) ^ j
pow_mul n i zero = ap (λ e. n ^ e) (mul-zero i) ∙ pow-zero n ∙ sym (pow-zero (n ^ i))
pow_mul n i (suc j) =
    ap (λ e. n ^ e) (mul-suc i j) ∙ pow-add n (i * j) i ∙ ap (λ x. x * n ^ i) (pow_mul n i j) ∙ sym (pow-suc (n ^ i) j)

pub mul_pow : (a b j : ℕ) → (a * b) ^ j ≡ a ^ j * b ^ j
mul_pow a b zero = rw (pow-zero (a * b), pow-zero a, pow-zero b)
mul_pow a b (suc j) = rw (pow-suc (a * b) j, pow-suc a j, pow-suc b j, mul_pow a b j) (omega arith)

pub pow_above_zero : (n i : ℕ) → 0 < n → 0 < n ^ i
pow_above_zero n zero above = omega (arith, pow-zero n)
pow_above_zero n (suc i) above = rw (pow-suc n i) (mul-pos (pow_above_zero n i above) above)

pub fourth_mul : (a b : ℕ) → fourth (a * b) ≡ fourth a * fourth b
fourth_mul a b = omega arith

pub fourth_mono : (a b : ℕ) → a ≤ b → fourth a ≤ fourth b
fourth_mono a b h = let s : a * a ≤ b * b = mul-le-mul h h in mul-le-mul s s

pub fourth_pos : (a : ℕ) → 0 < a → 0 < fourth a
fourth_pos a h = let s : 0 < a * a = mul-pos h h in mul-pos s s

pub fourth_pow : (x e : ℕ) → fourth (x ^ e) ≡ x ^ (4 * e)
fourth_pow x e =
    let two : 4 * e ≡ (e + e) + (e + e) = omega arith in
    rw (two, pow-add x (e + e) (e + e), pow-add x e e)

pub fourth_mono_inverse : (a b : ℕ) → fourth a ≤ fourth b → a ≤ b
fourth_mono_inverse a b h =
    elim (cases_lt b a) [
      | inl below ↦
          let one = fourth_mono (b + 1) a (omega arith) in
          let ten : b * b * (b * b) < (b + 1) * (b + 1) * ((b + 1) * (b + 1)) = omega arith in
          absurd (omega arith)
      | inr above ↦ above
    ]

-- whether c times a power of two stays above a fourth power, at each exponent below m
abbrev each_below : ℕ → ℕ → ℕ → Bool
each_below a c zero = true
each_below a c (suc m) = leb (fourth (m + a)) (c * 2 ^ m) && each_below a c m

-- what was tried at each exponent holds of each
pub tried_below : (a c m : ℕ) → each_below a c m ≡ true → (s : ℕ) → s < m → fourth (s + a) ≤ c * 2 ^ s
tried_below a c m tried =
    (Decides-below_and (λ s. leb (fourth (s + a)) (c * 2 ^ s)) (λ s. fourth (s + a) ≤ c * 2 ^ s) (each_below a c) (λ s. (leb-true (fourth (s + a)) (c * 2 ^ s), le-leb (fourth (s + a)) (c * 2 ^ s))) refl (λ _. refl) m).0 tried
