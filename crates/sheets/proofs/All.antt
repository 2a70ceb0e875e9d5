-- A test of every number below n.
use Rattle.std.proofs.Common.{true≢false, ◌≡◌, ℕ, zero, suc, ◌<◌, Bool, true, false, ◌&&◌, List, [], ◌∷◌, length, get_or, sym, ap, refl, ◌∙◌, inl, inr, eq-or-lt_of_le, arith}
use Rattle.std.proofs.lemmas.Bool.{cases_Bool, and_from, and_left, and_right}
use Rattle.std.specs.List.{list_all}
use Rattle.sheets.specs.Lines.{all_below}

-- one that fails is enough
pub all_not : (t : ℕ → Bool) (n i : ℕ) → i < n → t i ≡ false → all_below t n ≡ false
all_not t zero i l e = absurd (omega arith)
all_not t (suc n) i l e = elim (eq-or-lt_of_le l) [
  | inl here ↦ (let at : n ≡ i = omega arith in and_left (t n) (all_below t n) (rw at e))
  | inr below ↦ and_right (t n) (all_below t n) (all_not t n i (omega arith) e)
]

pub all_from : (t : ℕ → Bool) (n : ℕ) → ((i : ℕ) → i < n → t i ≡ true) → all_below t n ≡ true
all_from t zero h = refl
all_from t (suc n) h = and_from (t n) (all_below t n) (h n (omega arith)) (all_from t n (λ i l. h i (omega arith)))

pub all_gives : (t : ℕ → Bool) (n i : ℕ) → all_below t n ≡ true → i < n → t i ≡ true
all_gives t n i all l = elim (cases_Bool (t i)) [
  | inl here ↦ here
  | inr past ↦ absurd (true≢false (sym all ∙ all_not t n i l past))
]

-- the same test of the elements of a list, one by one
and_swap : (a b c : Bool) → (a && (b && c)) ≡ (b && (a && c))
and_swap true b c = refl
and_swap false true c = refl
and_swap false false c = refl

all_front : (t : ℕ → Bool) (n : ℕ) → all_below t (suc n) ≡ (t 0 && all_below (λ i. t (suc i)) n)
all_front t zero = refl
all_front t (suc n) = ap (λ b. t (suc n) && b) (all_front t n) ∙ and_swap (t (suc n)) (t 0) (all_below (λ i. t (suc i)) n)

pub all_items : {X : Type 0} (p : X → Bool) (xs : List X) (d : X) (t : ℕ → Bool) → ((i : ℕ) → i < length xs → p (get_or xs i d) ≡ t i) → list_all p xs ≡ all_below t (length xs)
all_items p [] d t h = refl
all_items p (x ∷ xs) d t h =
    ap (λ b. b && list_all p xs) (h 0 (omega arith))
    ∙ ap (λ b. t 0 && b) (all_items p xs d (λ i. t (suc i)) (λ i l. h (suc i) (omega arith)))
    ∙ sym (all_front t (length xs))

pub all_alike : (t u : ℕ → Bool) (n : ℕ) → ((i : ℕ) → i < n → t i ≡ u i) → all_below t n ≡ all_below u n
all_alike t u zero h = refl
all_alike t u (suc n) h =
    ap (λ b. b && all_below t n) (h n (omega arith)) ∙ ap (λ b. u n && b) (all_alike t u n (λ i l. h i (omega arith)))
