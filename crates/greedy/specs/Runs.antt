-- A run of turns, each of which makes one mark and takes a share of what is left away.
use Rattle.std.specs.Prelude.{◌≡◌, ℕ, zero, suc, ◌+◌, ◌*◌, ◌^◌, ◌<◌, ◌≤◌, Bool, true, false, cond}
use Rattle.std.proofs.Common.{ap, ◌∙◌, inl, inr, mul-add, mul-suc, pow-suc, suc-mul, zero-mul, arith}
use Rattle.std.proofs.Math.Nat.{lt_of_mul-lt-mul_left, mul-lt-mul_of_pos_left}
use Rattle.std.proofs.lemmas.Bool.{cases_Bool, cases_lt}

-- `left` and `made` of a state, a turn, whether there is one more, and the state after so many turns
pub record Turns (A : Type 0) (c : ℕ) : Type 0 where
  pub left : A → ℕ
  pub made : A → ℕ
  pub more : A → Bool
  pub next : A → A
  pub after : ℕ → A → A
  pub start : (a : A) → after 0 a ≡ a
  pub turn : (n : ℕ) (a : A) → after (suc n) a ≡ cond (more a) (after n (next a)) a
  pub idle : (a : A) → more a ≡ false → left a ≡ 0
  pub busy : (a : A) → more a ≡ true → 0 < left a
  pub one : (a : A) → more a ≡ true → made (next a) ≡ made a + 1
  pub share : (a : A) → more a ≡ true → left a + c * left (next a) < c * left a

module _ {A : Type 0} {c : ℕ} (T : Turns A c) where
  pub stays : (n : ℕ) (a : A) → T.more a ≡ false → T.after n a ≡ a
  stays zero a e = T.start a
  stays (suc n) a e = T.turn n a ∙ ap (λ b. cond b (T.after n (T.next a)) a) e

  pub goes : (n : ℕ) (a : A) → T.more a ≡ true → T.after (suc n) a ≡ T.after n (T.next a)
  goes n a e = T.turn n a ∙ ap (λ b. cond b (T.after n (T.next a)) a) e

  -- as long as the turns last, nothing is left in the end
  pub all_done : (most : ℕ) → ((a : A) → T.made a ≤ most) → (n : ℕ) (a : A) → most ≤ T.made a + n → T.left (T.after n a) ≡ 0
  all_done most h zero a l = elim (cases_Bool (T.more a)) [
    | inr e ↦ ap T.left (T.start a) ∙ T.idle a e
    | inl e ↦ absurd (omega (arith, h (T.next a), T.one a e))
  ]
  all_done most h (suc n) a l = elim (cases_Bool (T.more a)) [
    | inr e ↦ ap T.left (stays (suc n) a e) ∙ T.idle a e
    | inl e ↦ ap T.left (goes n a e) ∙ all_done most h n (T.next a) (omega (arith, T.one a e))
  ]

  -- while at least 2^b are left, r turns more are enough
  phase : (b : ℕ) → ((n : ℕ) (a : A) → T.left a < 2 ^ b → T.made (T.after n a) ≤ T.made a + c * b) → (n r : ℕ) (a : A) → c * T.left a < c * 2 ^ b + r * 2 ^ b → T.made (T.after n a) ≤ T.made a + (r + c * b)
  phase b low zero r a l = omega (arith, ap T.made (T.start a))
  phase b low (suc n) zero a l =
      omega (arith, low (suc n) a (lt_of_mul-lt-mul_left c (omega (arith, zero-mul (2 ^ b)))))
  phase b low (suc n) (suc r) a l = elim (cases_lt (T.left a) (2 ^ b)) [
    | inl small ↦ omega (arith, low (suc n) a small)
    | inr large ↦ elim (cases_Bool (T.more a)) [
      | inr e ↦ omega (arith, ap T.made (stays (suc n) a e))
      | inl e ↦ omega (
        arith,
        ap T.made (goes n a e),
        T.one a e,
        phase b low n r (T.next a) (omega (arith, T.share a e, suc-mul r (2 ^ b))),
      )
    ]
  ]

  -- so c·b turns are enough where fewer than 2^b are left
  pub few_turns : 0 < c → (b n : ℕ) (a : A) → T.left a < 2 ^ b → T.made (T.after n a) ≤ T.made a + c * b
  few_turns pos zero n a l = elim (cases_Bool (T.more a)) [
    | inr e ↦ omega (arith, ap T.made (stays n a e))
    | inl e ↦ absurd (omega (arith, T.busy a e))
  ]
  few_turns pos (suc b) n a l =
      let times : c * T.left a < c * 2 ^ suc b = mul-lt-mul_of_pos_left l pos in
      let two : c * 2 ^ suc b ≡ c * 2 ^ b + c * 2 ^ b = ap (λ x. c * x) (pow-suc 2 b ∙ twice (2 ^ b)) ∙ mul-add c (2 ^ b) (2 ^ b) in
      omega (arith, phase b (few_turns pos b) n c a (omega arith), mul-suc c b)
    where
      twice : (x : ℕ) → x * 2 ≡ x + x
      twice x = omega arith
