-- Where every counted range outweighs the total, some point lies in a share of them.
use Rattle.std.specs.Prelude.{◌≡◌, ℕ, suc, ◌*◌, ◌<◌, ◌≤◌, Bool, true, false, cond, ◌&&◌, refl}
use Rattle.std.proofs.Common.{sym, ap, ◌∙◌, inl, inr, mul_comm, mul_assoc, mul-one, mul-zero, suc-mul, mul-le-mul_left, mul-le-mul_right, arith}
use Rattle.std.proofs.lemmas.Bool.{cases_lt}
use Rattle.ranges.specs.Below.{sum_below, count_below}
use Rattle.ranges.proofs.Sums.{sum_same, sum_le, sum_zero, sum_mul}
use Rattle.greedy.specs.Doubles.{sum_swap, sum_const}

module _ (n m : ℕ) (w : ℕ → ℕ) (u : ℕ → Bool) (h : ℕ → ℕ → Bool) where
  -- each point as often as it is counted, or each counted range with its points
  pub weigh : sum_below (λ p. w p * count_below (λ j. u j && h j p) m) n ≡ sum_below (λ j. cond (u j) (sum_below (λ p. cond (h j p) (w p) 0) n) 0) m
  weigh =
      sum_same (λ p. w p * count_below (λ j. u j && h j p) m) (λ p. sum_below (λ j. w p * cond (u j && h j p) 1 0) m) n
      (λ p l. sym (sum_mul (w p) (λ j. cond (u j && h j p) 1 0) m))
      ∙ sum_swap (λ p j. w p * cond (u j && h j p) 1 0) m n
      ∙ sum_same (λ j. sum_below (λ p. w p * cond (u j && h j p) 1 0) n) (λ j. cond (u j) (sum_below (λ p. cond (h j p) (w p) 0) n) 0) m
      (λ j l. each (u j) j)
    where
      times : (b : Bool) (x : ℕ) → x * cond b 1 0 ≡ cond b x 0
      times true x = mul-one x
      times false x = mul-zero x

      each : (b : Bool) (j : ℕ) → sum_below (λ p. w p * cond (b && h j p) 1 0) n ≡ cond b (sum_below (λ p. cond (h j p) (w p) 0) n) 0
      each true j = sum_same (λ p. w p * cond (h j p) 1 0) (λ p. cond (h j p) (w p) 0) n (λ p l. times (h j p) (w p))
      each false j = sum_zero (λ p. w p * 0) n (λ p l. mul-zero (w p))

  module _ (k c W : ℕ) (whole : sum_below w n ≡ W) (outweighs : (j : ℕ) → j < m → u j ≡ true → W < k * sum_below (λ p. cond (h j p) (w p) 0) n) (most : (p : ℕ) → p < n → count_below (λ j. u j && h j p) m ≤ c) where
    above : suc W * count_below u m ≤ k * sum_below (λ p. w p * count_below (λ j. u j && h j p) m) n
    above =
        let a = sum_const (suc W) u m in
        let b = ap (λ x. k * x) weigh in
        let d = sum_mul k (λ j. cond (u j) (sum_below (λ p. cond (h j p) (w p) 0) n) 0) m in
        let e = sum_le (λ j. cond (u j) (suc W) 0) (λ j. k * cond (u j) (sum_below (λ p. cond (h j p) (w p) 0) n) 0) m (λ j l. each j l) in
        omega arith
      where
        by : (b : Bool) (x : ℕ) → (b ≡ true → W < k * x) → cond b (suc W) 0 ≤ k * cond b x 0
        by true x f = f refl
        by false x f = omega arith

        each : (j : ℕ) → j < m → cond (u j) (suc W) 0 ≤ k * cond (u j) (sum_below (λ p. cond (h j p) (w p) 0) n) 0
        each j l = by (u j) _ (outweighs j l)

    below : sum_below (λ p. w p * count_below (λ j. u j && h j p) m) n ≤ c * W
    below =
        let a = sum_le (λ p. w p * count_below (λ j. u j && h j p) m) (λ p. c * w p) n (λ p l. omega (arith, mul-le-mul_left (w p) (most p l), mul_comm c (w p))) in
        let b = sum_mul c w n in
        let d = ap (λ x. c * x) whole in
        omega arith

    pub some_share : 0 < count_below u m → count_below u m < k * c
    some_share pos = elim (cases_lt (count_below u m) (k * c)) [
      | inl l ↦ l
      | inr g ↦ (
          let a = above in
          let b = mul-le-mul_left k below in
          let d = mul-le-mul_right W g in
          let e = suc-mul W (count_below u m) in
          let f = mul_comm W (count_below u m) in
          let i = mul_assoc k c W in
          absurd (omega arith)
          )
    ]
