-- A full ledger of good lines proves that the guess is too small.
use Rattle.std.proofs.Common.{◌≡◌, ℕ, zero, suc, ◌+◌, ◌-◌, ◌*◌, ◌^◌, ◌<◌, ◌≤◌, Bool, true, false, cond, List, [], ◌∷◌, length, sym, refl, ap, ◌∙◌, subst, inl, inr, mul-le-mul_left, arith, pow-add}
use native.Mathlib.Nat.{pow-zero}
use Rattle.std.proofs.lemmas.Bool.{cases_lt, cond_both}
use Rattle.ranges.specs.Spaces.{RangeSpace, Within}
use Rattle.ranges.specs.Below.{sum_below, count_below}
use Rattle.ranges.specs.Weights.{weight_at, total, set_weight, HitsAll}
use Rattle.ranges.proofs.Sums.{sum_add, sum_mul, sum_le, sum_same, sum_part}
use Rattle.guesses.specs.Limits.{doublings_of, limit_of}
use Rattle.guesses.proofs.Growth.{contradiction}
use Rattle.guesses.proofs.Limits.{doublings_some}
use Rattle.guesses.proofs.Potential.{two_pow}
use Rattle.ledgers.specs.Doublings.{doubled, doubled_by, ones, AllGood, NeedsMore, Grown}
use Rattle.ledgers.proofs.Doublings.{doubled_long, doubled_weight, good_light, grown_all, grown_none, ones_long, ones_at}

-- how many of the listed ranges hold point p
abbrev times : RangeSpace → List ℕ → ℕ → ℕ
times S [] p = 0
times S (j ∷ js) p = cond (S.holds j p) 1 0 + times S js p

once_more : (b : Bool) (x t : ℕ) → cond b (2 * x) x * 2 ^ t ≡ x * 2 ^ (cond b 1 0 + t)
once_more true x t = rw (pow-add 2 1 t) (omega arith)
once_more false x t = rw (pow-add 2 0 t) (omega arith)

-- a point's weight doubles once for each listed range that holds it
weight_after : (S : RangeSpace) (ws js : List ℕ) (p : ℕ) → weight_at (doubled_by S ws js) p ≡ weight_at ws p * 2 ^ times S js p
weight_after S ws [] p = rw (pow-zero 2) (omega arith)
weight_after S ws (j ∷ js) p =
    weight_after S (doubled S j ws) js p
    ∙ ap (λ x. x * 2 ^ times S js p) (doubled_weight S j ws p)
    ∙ once_more (S.holds j p) (weight_at ws p) (times S js p)

doubled_by_long : (S : RangeSpace) (ws js : List ℕ) → length (doubled_by S ws js) ≡ length ws
doubled_by_long S ws [] = refl
doubled_by_long S ws (j ∷ js) = doubled_by_long S (doubled S j ws) js ∙ doubled_long S j ws

-- every line names a range
abbrev Exist : RangeSpace → List ℕ → Type 0
Exist S [] = Unit {0}
Exist S (j ∷ js) = (j < S.ranges) × Exist S js

all_exist : (S : RangeSpace) (k : ℕ) (ws js : List ℕ) → AllGood S k ws js → Exist S js
all_exist S k ws [] all = tt
all_exist S k ws (j ∷ js) all = ((good_light S k ws j all.0).0, all_exist S k (doubled S j ws) js all.1)

shared : (b : Bool) (x y : ℕ) → cond b (x + y) 0 ≡ cond b x 0 + cond b y 0
shared true x y = refl
shared false x y = refl

-- 1 for a point of both the set and range j
abbrev both : RangeSpace → (ℕ → Bool) → ℕ → ℕ → ℕ
both S P j p = cond (P p) (cond (S.holds j p) 1 0) 0

abbrev times_in : RangeSpace → (ℕ → Bool) → List ℕ → ℕ → ℕ
times_in S P js p = cond (P p) (times S js p) 0

-- a set that hits all ranges gains a doubling with each line
gains : (S : RangeSpace) (within : Within S) (P : ℕ → Bool) → HitsAll S P → (js : List ℕ) → Exist S js → length js ≤ sum_below (times_in S P js) S.points
gains S within P hits [] exist = omega arith
gains S within P hits (j ∷ js) exist =
    let before = gains S within P hits js exist.1 in
    let h = hits j exist.0 in
    let own : both S P j h.0 ≡ 1 = ap (λ b. cond b (cond (S.holds j h.0) 1 0) 0) h.1 ∙ ap (λ b. cond b 1 0) h.2 in
    let one = sum_part (both S P j) S.points h.0 (within.inside j h.0 h.2).1 in
    let split = sum_same (times_in S P (j ∷ js)) (λ p. both S P j p + times_in S P js p) S.points (λ p l. shared (P p) (cond (S.holds j p) 1 0) (times S js p)) ∙ sum_add (both S P j) (times_in S P js) S.points in
    omega arith

-- 2^e is at least 2^q·(e + 1) less q·2^q, for a point of the set
heavier : (b : Bool) (e q w : ℕ) → w ≡ 2 ^ e → 2 ^ q * cond b e 0 + 2 ^ q * cond b 1 0 ≤ cond b w 0 + q * 2 ^ q * cond b 1 0
heavier true e q w is = omega (arith, two_pow e q)
heavier false e q w is = omega arith

module _ (S : RangeSpace) (within : Within S) (P : ℕ → Bool) (hits : HitsAll S P) (js : List ℕ) (exist : Exist S js) (q : ℕ) where
  -- so the set weighs at least 2^q·(r + |P|) less q·2^q·|P|
  set_heavy : 2 ^ q * (length js + count_below P S.points) ≤ set_weight S.points (doubled_by S (ones S.points) js) P + q * 2 ^ q * count_below P S.points
  set_heavy =
      let n = S.points in
      let size = λ (p : ℕ). cond {A = ℕ} (P p) 1 0 in
      let pointwise = sum_le (λ p. 2 ^ q * times_in S P js p + 2 ^ q * size p) (λ p. cond (P p) (weight_at (doubled_by S (ones n) js) p) 0 + q * 2 ^ q * size p) n
      (λ p l. heavier (P p) (times S js p) q (weight_at (doubled_by S (ones n) js) p) (weight_after S (ones n) js p ∙ ap (λ x. x * 2 ^ times S js p) (ones_at n p l) ∙ omega arith)) in
      let left = sum_add (λ p. 2 ^ q * times_in S P js p) (λ p. 2 ^ q * size p) n in
      let left-times = sum_mul (2 ^ q) (times_in S P js) n in
      let left-size = sum_mul (2 ^ q) size n in
      let right = sum_add (λ p. cond (P p) (weight_at (doubled_by S (ones n) js) p) 0) (λ p. q * 2 ^ q * size p) n in
      let right-size = sum_mul (q * 2 ^ q) size n in
      let least = mul-le-mul_left (2 ^ q) (gains S within P hits js exist) in
      omega arith

set_light : (n : ℕ) (ws : List ℕ) (P : ℕ → Bool) → length ws ≡ n → set_weight n ws P ≤ total ws
set_light n ws P long =
    rw long (sum_le (λ p. cond (P p) (weight_at ws p) 0) (weight_at ws) n (λ p l. cond_both (P p) (weight_at ws p) 0 (λ x. x ≤ weight_at ws p) (λ _. omega arith) (λ _. omega arith)))

-- the sums of the last step, with T = 2^t
spread_over : (T t m d w : ℕ) → 0 < t → T * ((m + d) * t + m) ≤ w + t * T * m → (m + d) * T ≤ w
spread_over T zero m d w some h = absurd (omega arith)
spread_over T (suc s) m d w some h = omega arith

spread : (T t m k w : ℕ) → 0 < t → m ≤ k → T * (k * t + m) ≤ w + t * T * m → k * T ≤ w
spread T t m k w some few h =
    let e : m + (k - m) ≡ k = omega arith in
    subst (λ (x : ℕ). x * T ≤ w) e (spread_over T t m (k - m) w some (subst (λ (x : ℕ). T * (x * t + m) ≤ w + t * T * m) (sym e) h))

-- a guess with a full ledger of good lines is too small
pub full_ledger : (S : RangeSpace) (k : ℕ) (js : List ℕ) → Within S → 0 < k → k ≤ S.points → length js ≡ limit_of S.points k → AllGood S k (ones S.points) js → NeedsMore S k
full_ledger S k js within some few full all P hits =
    elim (cases_lt k (count_below P S.points)) [ inl more ↦ more | inr small ↦ absurd (too_few small) ]
  where
    too_few : count_below P S.points ≤ k → ⊥
    too_few small =
        let t = doublings_of S.points k in
        let m = count_below P S.points in
        let weighs = set_heavy S within P hits js (all_exist S k (ones S.points) js all) (doublings_of S.points k) in
        let light = set_light S.points (doubled_by S (ones S.points) js) P (doubled_by_long S (ones S.points) js ∙ ones_long S.points) in
        let spread-weight = spread (2 ^ t) t m k (set_weight S.points (doubled_by S (ones S.points) js) P) (doublings_some S.points k few) small
        (subst (λ (x : ℕ). 2 ^ t * (x + m) ≤ set_weight S.points (doubled_by S (ones S.points) js) P + t * 2 ^ t * m) full weighs) in
        let grown = grown_all S k S.points 0 (ones S.points) js (ones_long S.points) (grown_none S.points k) all in
        let all_lines : 0 + length js ≡ limit_of S.points k = omega (arith, full) in
        contradiction S.points k (total (doubled_by S (ones S.points) js)) some few within.few_points
        (subst (λ (r : ℕ). Grown S.points k r (total (doubled_by S (ones S.points) js))) all_lines grown)
        (omega arith)
