-- Doubling a range adds its weight to the total, and a light range adds little.
use Rattle.std.proofs.Common.{◌≡◌, ℕ, ◌+◌, ◌*◌, ◌^◌, ◌<◌, ◌≤◌, Bool, true, false, cond, List, [], ◌∷◌, length, sym, refl, ap, ◌∙◌, subst, inl, inr, mul-le-mul_right, mul_comm, pow-suc, add-one, arith}
use native.Mathlib.Nat.{pow-zero}
use Rattle.std.proofs.lemmas.List.FromFn.{length-map-range_with_len, get_or-map-range_with_len}
use Rattle.std.proofs.lemmas.List.{get_or_past, length-replicate, get_or-replicate}
use Rattle.std.proofs.lemmas.Bool.{cases_lt, and_parts, not-true, ltb-true, ltb-false}
use Rattle.ranges.specs.Spaces.{RangeSpace}
use Rattle.ranges.specs.Below.{sum_below}
use Rattle.ranges.specs.Weights.{weight_at, total, share, range_weight}
use Rattle.ranges.proofs.Sums.{sum_add, sum_same, count_front}
use Rattle.ledgers.specs.Doublings.{doubled_at, doubled, doubled_by, ones, good, AllGood, Grown}

module _ (S : RangeSpace) (j : ℕ) (ws : List ℕ) where
  pub doubled_long : length (doubled S j ws) ≡ length ws
  doubled_long = length-map-range_with_len (doubled_at S j ws) 0 (length ws)

  nothing_doubled : (b : Bool) (x : ℕ) → x ≡ 0 → cond b (2 * x) x ≡ 0
  nothing_doubled true x e = omega arith
  nothing_doubled false x e = e

  pub doubled_weight : (p : ℕ) → weight_at (doubled S j ws) p ≡ doubled_at S j ws p
  doubled_weight p =
      elim (cases_lt p (length ws)) [
        | inl l ↦ get_or-map-range_with_len (doubled_at S j ws) 0 (length ws) p p 0 l (omega arith)
        | inr past ↦
            get_or_past (doubled S j ws) p 0 (omega (arith, doubled_long))
            ∙ sym (nothing_doubled (S.holds j p) (weight_at ws p) (get_or_past ws p 0 past))
      ]

  grown : (b : Bool) (x : ℕ) → cond b (2 * x) x ≡ x + cond b x 0
  grown true x = omega arith
  grown false x = omega arith

  -- W grows by exactly w(R)
  pub total_doubled : length ws ≡ S.points → total (doubled S j ws) ≡ total ws + range_weight S ws j
  total_doubled long =
      ap (sum_below (weight_at (doubled S j ws))) doubled_long
      ∙ sum_same _ (λ p. weight_at ws p + share S ws j p) (length ws) (λ p l. doubled_weight p ∙ grown (S.holds j p) (weight_at ws p))
      ∙ sum_add (weight_at ws) (share S ws j) (length ws)
      ∙ ap (λ n. total ws + sum_below (share S ws j) n) long

-- a light range is at most a 2·k-th of the total
pub good_light : (S : RangeSpace) (k : ℕ) (ws : List ℕ) (j : ℕ) → good S k ws j ≡ true → (j < S.ranges) × (2 * k * range_weight S ws j ≤ total ws)
good_light S k ws j e =
    let both = and_parts _ _ e in
    (ltb-true _ _ both.0, ltb-false _ _ (not-true _ both.1))

grown_times : (W w a A n B : ℕ) → a * w ≤ W → W * A ≤ n * B → (W + w) * (A * a) ≤ n * (B * (a + 1))
grown_times W w a A n B light before =
    let once : (W + w) * a ≤ (a + 1) * W = omega (arith, mul_comm a w) in
    let left = mul-le-mul_right A once in
    let right = mul-le-mul_right (a + 1) before in
    omega arith

pub grown_once : (n k r W w : ℕ) → 2 * k * w ≤ W → Grown n k r W → Grown n k (r + 1) (W + w)
grown_once n k r W w light before =
    rw (add-one, pow-suc (2 * k) r, pow-suc (2 * k + 1) r) (grown_times W w (2 * k) ((2 * k) ^ r) n ((2 * k + 1) ^ r) light before)

pub ones_long : (n : ℕ) → length (ones n) ≡ n
ones_long n = length-replicate n 1

pub ones_at : (n p : ℕ) → p < n → weight_at (ones n) p ≡ 1
ones_at n p l = get_or-replicate n p 1 0 l

pub total_ones : (n : ℕ) → total (ones n) ≡ n
total_ones n =
    ap (sum_below (weight_at (ones n))) (ones_long n)
    ∙ sum_same (weight_at (ones n)) (λ p. cond true 1 0) n (λ p l. ones_at n p l)
    ∙ count_front (λ _. true) n n (omega arith) (λ i l. refl) (λ i from l. absurd (omega arith))

pub grown_none : (n k : ℕ) → Grown n k 0 (total (ones n))
grown_none n k = rw (total_ones n, pow-zero (2 * k), pow-zero (2 * k + 1)) (omega arith)

-- the lines of a ledger that are all good let the total grow no more than that
pub grown_all : (S : RangeSpace) (k : ℕ) (n r : ℕ) (ws js : List ℕ) → length ws ≡ S.points → Grown n k r (total ws) → AllGood S k ws js → Grown n k (r + length js) (total (doubled_by S ws js))
grown_all S k n r ws [] long before all = subst (λ (e : ℕ). Grown n k e (total ws)) (omega arith) before
grown_all S k n r ws (j ∷ js) long before all =
    let light = (good_light S k ws j all.0).1 in
    let once = subst (Grown n k (r + 1)) (sym (total_doubled S j ws long)) (grown_once n k r (total ws) (range_weight S ws j) light before) in
    let rest = grown_all S k n (r + 1) (doubled S j ws) js (doubled_long S j ws ∙ long) once all.1 in
    subst (λ (e : ℕ). Grown n k e (total (doubled_by S (doubled S j ws) js))) (omega arith) rest
