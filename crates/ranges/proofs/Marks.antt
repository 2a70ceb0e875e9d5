-- Marks written from a test: 1 where it passes, else 0.
use Rattle.std.proofs.Common.{◌≡◌, ℕ, ◌<◌, Bool, true, false, cond, eqb, ◌⊎◌, length, get_or, refl, ap, ◌∙◌, inl, inr, arith}
use mir.Val.{bool_byte}
use Rattle.std.proofs.lemmas.List.FromFn.{length-map-range_with_len, get_or-map-range_with_len}
use Rattle.ranges.specs.Below.{count_below}
use Rattle.ranges.specs.Weights.{marked, chosen, marks_of}
use Rattle.ranges.proofs.Sums.{sum_same}

pub bit_is : (b : Bool) → eqb (cond b 1 0) 1 ≡ b
bit_is true = refl
bit_is false = refl

-- a mark as `u8::from` makes it
pub byte_bit : (b : Bool) → bool_byte b ≡ cond b 1 0
byte_bit true = refl
byte_bit false = refl

bit_cases : (b : Bool) (x : ℕ) → x ≡ cond b 1 0 → (x ≡ 0) ⊎ (x ≡ 1)
bit_cases true x e = inr e
bit_cases false x e = inl e

module _ (t : ℕ → Bool) (n : ℕ) where
  pub marks_long : length (marks_of t n) ≡ n
  marks_long = length-map-range_with_len (λ p. cond (t p) 1 0) 0 n

  pub marks_at : (p : ℕ) → p < n → get_or (marks_of t n) p 0 ≡ cond (t p) 1 0
  marks_at p l = get_or-map-range_with_len (λ q. cond (t q) 1 0) 0 n p p 0 l (omega arith)

  pub marks_marked : (p : ℕ) → p < n → marked (marks_of t n) p ≡ t p
  marks_marked p l = ap (λ x. eqb x 1) (marks_at p l) ∙ bit_is (t p)

  pub marks_bits : (p : ℕ) → p < n → (get_or (marks_of t n) p 0 ≡ 0) ⊎ (get_or (marks_of t n) p 0 ≡ 1)
  marks_bits p l = bit_cases (t p) _ (marks_at p l)

  pub marks_chosen : chosen (marks_of t n) ≡ count_below t n
  marks_chosen =
      ap (count_below (marked (marks_of t n))) marks_long
      ∙ sum_same _ _ n (λ p l. ap (λ b. cond b 1 0) (marks_marked p l))
