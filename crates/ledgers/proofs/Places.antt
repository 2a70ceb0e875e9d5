-- Weights rewritten place by place.
use Rattle.std.proofs.Common.{◌≡◌, ℕ, ◌+◌, ◌*◌, ◌<◌, Bool, true, false, cond, ◌&&◌, ltb, ◌≢◌, List, length, set, sym, refl, ap, ◌∙◌, inl, inr, arith}
use Rattle.std.proofs.lemmas.List.FromFn.{fill_by_all}
use Rattle.std.proofs.lemmas.List.{get_or-set_same, get_or-set_other, get_or_past, length-set}
use Rattle.std.proofs.lemmas.Bool.{cases_eq, cases_lt, cases_Bool, cond-true, cond-false, lt-ltb, le-ltb}
use Rattle.std.proofs.lemmas.Bool.Decides.{nat_tests}
use Rattle.ranges.specs.Weights.{weight_at, capped, tabulated}
use Rattle.ranges.specs.Spaces.{RangeSpace, Within}
use Rattle.ledgers.specs.Doublings.{capped_doubled, capped_point_at, capped_points, weight_doubled}

-- the places below p hold f, the others what they held
abbrev pub Done : (ℕ → ℕ) → List ℕ → ℕ → List ℕ → Type 0
Done f old p now = (q : ℕ) → weight_at now q ≡ cond (ltb q p) (f q) (weight_at old q)

-- before the first place nothing is done
pub none_done : (f : ℕ → ℕ) (old : List ℕ) → Done f old 0 old
none_done f old q = sym (cond-false (ltb q 0) (f q) (weight_at old q) (le-ltb q 0 (omega arith)))

next_place : (f : ℕ → ℕ) (old now now' : List ℕ) (p : ℕ) → Done f old p now → weight_at now' p ≡ f p → ((q : ℕ) → q ≢ p → weight_at now' q ≡ weight_at now q) → Done f old (p + 1) now'
next_place f old now now' p done here others q =
    elim (cases_eq q p) [
      | inl e ↦ rw e (here ∙ sym (cond-true (ltb p (p + 1)) (f p) (weight_at old p) (lt-ltb p (p + 1) (omega arith))))
      | inr ne ↦ (let before = done q in let same = others q ne in grind (arith, nat_tests))
    ]

-- the weight at p is doubled
doubled_place : (ws ws' : List ℕ) (p : ℕ) → ws' ≡ weight_doubled ws p
    → (weight_at ws' p ≡ capped (2 * weight_at ws p)) × ((q : ℕ) → q ≢ p → weight_at ws' q ≡ weight_at ws q)
doubled_place ws ws' p e =
    elim (cases_lt p (length ws)) [
      | inl l ↦ (
          let is : ws' ≡ set ws p (capped (2 * weight_at ws p)) = e ∙ cond-true (ltb p (length ws)) _ _ (lt-ltb p _ l) in
          (ap (λ x. weight_at x p) is ∙ get_or-set_same ws p _ 0 l, λ q ne. ap (λ x. weight_at x q) is ∙ get_or-set_other ws p q _ 0 ne))
      | inr past ↦ (
          let is : ws' ≡ ws = e ∙ cond-false (ltb p (length ws)) _ _ (le-ltb p _ past) in
          let none = get_or_past ws p 0 past in
          (ap (λ x. weight_at x p) is ∙ omega arith, λ q ne. ap (λ x. weight_at x q) is))
    ]

module _ (n : ℕ) (P : ℕ → Bool) (old now : List ℕ) (p : ℕ) (l : p < n) (done : Done (capped_point_at n P old) old p now) where
  same_here : weight_at now p ≡ weight_at old p
  same_here = done p ∙ cond-false (ltb p p) _ _ (le-ltb p p (omega arith))

  here_is : (b : Bool) → P p ≡ b → capped_point_at n P old p ≡ cond b (capped (2 * weight_at old p)) (weight_at old p)
  here_is b e = (λ d. cond (lt-ltb p n l d && e d) (capped (2 * weight_at old p)) (weight_at old p))

  -- one point more
  pub member_next : (now' : List ℕ) → now' ≡ cond (P p) (weight_doubled now p) now → Done (capped_point_at n P old) old (p + 1) now'
  member_next now' e =
      elim (cases_Bool (P p)) [
        | inl has ↦ (
            let placed = doubled_place now now' p (e ∙ cond-true (P p) _ _ has) in
            next_place (capped_point_at n P old) old now now' p done (placed.0 ∙ ap (λ x. capped (2 * x)) same_here ∙ sym (here_is true has)) placed.1)
        | inr lacks ↦ (
            let is : now' ≡ now = e ∙ cond-false (P p) _ _ lacks in
            next_place (capped_point_at n P old) old now now' p done (ap (λ x. weight_at x p) is ∙ same_here ∙ sym (here_is false lacks)) (λ q ne. ap (λ x. weight_at x q) is))
      ]

member_length : (b : Bool) (ws : List ℕ) (p : ℕ) → length (cond b (weight_doubled ws p) ws) ≡ length ws
member_length false ws p = refl
member_length true ws p = by_test (ltb p (length ws))
  where
    by_test : (x : Bool) → length (cond x (set ws p (capped (2 * weight_at ws p))) ws) ≡ length ws
    by_test true = length-set ws p _
    by_test false = refl

-- a member more leaves as many weights
pub member_long : (P : ℕ → Bool) (old now now' : List ℕ) (p : ℕ) → length now ≡ length old → now' ≡ cond (P p) (weight_doubled now p) now → length now' ≡ length old
member_long P old now now' p long e = ap length e ∙ member_length (P p) now p ∙ long

-- all n points are done
pub all_done : (n p : ℕ) (P : ℕ → Bool) (old now : List ℕ) → length now ≡ length old → Done (capped_point_at n P old) old p now → p ≡ n → now ≡ capped_points n P old
all_done n p P old now long done end =
    fill_by_all (capped_point_at n P old) now (length old) 0 long
    (λ q l. done q ∙ ap (λ x. cond (ltb q x) (capped_point_at n P old q) (weight_at old q)) end ∙ beyond (ltb q n) (P q) _ _)
  where
    beyond : (b c : Bool) (x y : ℕ) → cond b (cond (b && c) x y) y ≡ cond (b && c) x y
    beyond true c x y = refl
    beyond false c x y = refl

-- a range holds only points of its space
pub held_points : (S : RangeSpace) → Within S → (j : ℕ) (ws : List ℕ) → capped_points S.points (S.holds j) ws ≡ capped_doubled S j ws
held_points S within j ws = (λ i. tabulated (λ p. cond (inside p i) (capped (2 * weight_at ws p)) (weight_at ws p)) (length ws))
  where
    inside : (p : ℕ) → (ltb p S.points && S.holds j p) ≡ S.holds j p
    inside p = elim (cases_lt p S.points) [
      | inl l ↦ ap (λ b. b && S.holds j p) (lt-ltb p _ l)
      | inr past ↦ elim (cases_Bool (S.holds j p)) [
        | inl held ↦ absurd (omega (arith, (within.inside j p held).1))
        | inr free ↦ ap (λ b. b && S.holds j p) (le-ltb p _ past) ∙ sym free
      ]
    ]
