-- The least by a key of the numbers below n that pass a test, as a chain picks it.
use Rattle.std.proofs.Common.{◌≡◌, ℕ, zero, suc, Bool, true, false, cond, ltb, ◌⊎◌, List, [], ◌∷◌, Some, None, Option, sym, refl, ap, ◌∙◌, subst, inl, inr, map-id, arith}
use Rattle.std.specs.Fn.{CalledAt}
use Rattle.std.specs.Iterator.{KeyTurn, PicksMinByKey}
use Rattle.std.specs.List.{FoldsTo, filter, fold}
use Rattle.std.specs.Option.{option_map}
use Rattle.std.specs.Ordering.{nat_cmp, min_by_ordering}
use Rattle.std.proofs.Common.{Less, Equal, Greater, Ordering, eqb}
use Rattle.std.proofs.lemmas.Bool.{cases_lt, both_ways, cond-true, cond-false, lt-ltb, le-ltb, eq-eqb, ne_eqb}
use Rattle.std.proofs.lemmas.Iterator.{YieldsList, items_from_drains}
use Rattle.std.proofs.lemmas.List.Sums.{fold-append}
use Rattle.ranges.specs.Below.{lower_of, least_by}
use Rattle.ranges.specs.Weights.{range_of}
use Rattle.ranges.proofs.Chains.{numbers, numbers_more}
use denote.Param.Members.{Mut}
use denote.Ref.{Bor}

-- the lower by w of two, the first among equals, and the same where there may be none yet
abbrev lighter : {X : Type 0} → (X → ℕ) → X → X → X
lighter w b x = cond (ltb (w x) (w b)) x b

abbrev best : {X : Type 0} → (X → ℕ) → Option X → X → Option X
best w None x = Some x
best w (Some b) x = Some (lighter w b x)

first_of_two : {X : Type 0} (w : X → ℕ) (b x : X) → min_by_ordering (nat_cmp (w b) (w x)) b x ≡ lighter w b x
first_of_two w b x = elim (cases_lt (w x) (w b)) [
  | inl less ↦ (
      let no = le-ltb (w b) (w x) (omega arith) in
      let other = ne_eqb (w b) (w x) (λ e. absurd (omega (arith, e))) in
      ap (λ c. min_by_ordering (cond c Less (cond (eqb (w b) (w x)) Equal Greater)) b x) no
      ∙ ap (λ c. min_by_ordering (cond c Equal Greater) b x) other
      ∙ sym (cond-true (ltb (w x) (w b)) x b (lt-ltb (w x) (w b) less)))
  | inr from ↦ kept (ltb (w b) (w x)) (eqb (w b) (w x)) (elim (cases_lt (w b) (w x)) [ inl l ↦ inl (lt-ltb (w b) (w x) l) | inr m ↦ inr (eq-eqb (w b) (w x) (omega arith)) ]) ∙ sym (cond-false (ltb (w x) (w b)) x b (le-ltb (w x) (w b) from))
]
  where
    kept : (c d : Bool) → (c ≡ true) ⊎ (d ≡ true) → min_by_ordering (cond c Less (cond d Equal Greater)) b x ≡ b
    kept true d e = refl
    kept false true e = refl
    kept false false (inl e) = absurd (both_ways false refl e)
    kept false false (inr e) = absurd (both_ways false refl e)

min_of_keys : {X : Type 0} (w : X → ℕ) (o : Ordering) (b x : X) → min_by_ordering o (w b) (w x) ≡ w (min_by_ordering o b x)
min_of_keys w Less b x = refl
min_of_keys w Equal b x = refl
min_of_keys w Greater b x = refl

fold_from_first : {X : Type 0} (w : X → ℕ) (x : X) (xs : List X) → fold (best w) (Some x) xs ≡ Some (fold (lighter w) x xs)
fold_from_first w x [] = refl
fold_from_first w x (y ∷ xs) = fold_from_first w (lighter w x y) xs

module _ {X F : Type 0} (g : Mut F (Bor X × Unit {0}) ℕ) (f : F) (w : X → ℕ) (key : (x : X) (k : ℕ) (q : F) → CalledAt g f x k q → (q ≡ f) × (k ≡ w x)) where
  -- the turns over the items behind the first
  turned : (xs : List X) (k : ℕ) (j : F) (x y : X) (q : F × ℕ) → j ≡ f → k ≡ w x → FoldsTo {P = (F × ℕ) × X} (KeyTurn min_by_ordering min_by_ordering g nat_cmp) ((j, k), x) xs (q, y) → y ≡ fold (lighter w) x xs
  turned [] k j x y q is at turns = ap (λ s. s.1) (sym turns)
  turned (z ∷ xs) k j x y q is at (s, (m, o, called, cmp, best_key, best_one), rest) =
      let said = key z m s.0.0 (subst (λ h. CalledAt g h z m s.0.0) is called) in
      let order : nat_cmp (w x) (w z) ≡ o = ap (λ i. nat_cmp i (w z)) (sym at) ∙ ap (nat_cmp k) (sym said.1) ∙ cmp in
      let one : s.1 ≡ lighter w x z = best_one ∙ ap (λ r. min_by_ordering r x z) (sym order) ∙ first_of_two w x z in
      let kept : s.0.1 ≡ w s.1 = best_key ∙ ap (λ a. min_by_ordering o a m) at ∙ ap (min_by_ordering o (w x)) said.1 ∙ min_of_keys w o x z ∙ ap w (sym best_one) in
      turned xs s.0.1 s.0.0 s.1 y q said.0 kept rest ∙ ap (λ b. fold (lighter w) b xs) one

  pub picked : (r : Option X) → {S : Type 0} {steps : S → Option X → S → Type 0} {s : S} {all : List X} → PicksMinByKey steps g nat_cmp s f r → YieldsList steps (λ x. x) s all → r ≡ fold (best w) None all
  picked None ran road = ap (fold (best w) None) (items_from_drains [] (ran.1.0, ran.1.1, λ _. (ran.0, ran.1.2)) road)
  picked (Some y) (x, xs, k, j, q, came, called, turns) road =
      let said = key x k j called in
      ap Some (turned xs k j x y q said.0 said.1 turns) ∙ sym (fold_from_first w x xs)
      ∙ ap (fold (best w) None) (sym (map-id (x ∷ xs)) ∙ items_from_drains (x ∷ xs) (came.1.0, came.1.1, λ _. (came.0, came.1.2)) road)

module _ {X : Type 0} (mk : ℕ → X) (t : X → Bool) (w : X → ℕ) where
  lowered : (o : Option ℕ) (k : ℕ) → best w (option_map mk o) (mk k) ≡ option_map mk (lower_of (λ i. w (mk i)) o k)
  lowered None k = refl
  lowered (Some b) k = of_two (ltb (w (mk k)) (w (mk b)))
    where
      of_two : (c : Bool) → ◌≡◌ {A = Option X} (Some (cond c (mk k) (mk b))) (option_map mk (cond c (Some k) (Some b)))
      of_two true = refl
      of_two false = refl

  pub least_in_numbers : (n : ℕ) → fold (best w) None (filter t (numbers mk n)) ≡ option_map mk (least_by (λ k. t (mk k)) (λ k. w (mk k)) n)
  least_in_numbers zero = refl
  least_in_numbers (suc n) =
      ap (fold (best w) None) (numbers_more mk t n)
      ∙ fold-append (best w) None (filter t (numbers mk n)) (cond (t (mk n)) (mk n ∷ []) [])
      ∙ ap (λ o. fold (best w) o (cond (t (mk n)) (mk n ∷ []) [])) (least_in_numbers n)
      ∙ last (t (mk n)) (least_by (λ k. t (mk k)) (λ k. w (mk k)) n)
    where
      last : (c : Bool) (o : Option ℕ) → fold (best w) (option_map mk o) (cond c (mk n ∷ []) []) ≡ option_map mk (cond c (lower_of (λ k. w (mk k)) o n) o)
      last true o = lowered o n
      last false o = refl

pub range_numbered : (o : Option ℕ) → range_of (option_map (λ k. record { 0 = k }) o) ≡ o
range_numbered None = refl
range_numbered (Some k) = refl
