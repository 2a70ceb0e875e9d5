-- The bytes of the points and the flags of the ranges, as they change during a call.
use Rattle.std.proofs.Common.{◌≡◌, ℕ, ◌+◌, ◌-◌, ◌<◌, Bool, true, false, cond, not, ◌&&◌, ◌||◌, eqb, ltb, ◌⊎◌, List, length, get_or, set, replicate, sym, refl, ap, ◌∙◌, subst, inl, inr, arith}
use mathlib.Core.Path.{fun_ext}
use Rattle.std.proofs.lemmas.Bool.{and_parts, cases_Bool, cases_eq, cases_lt, eq-eqb, ne_eqb, ltb-true, ltb-false}
use Rattle.std.proofs.lemmas.List.{set-get_or, get_or_past, length-replicate, get_or-replicate, get_or-set_same, get_or-set_other}
use Rattle.std.proofs.lemmas.List.FromFn.{length-map-range_with_len, get_or-map-range_with_len}
use Rattle.ranges.specs.Spaces.{RangeSpace}
use Rattle.ranges.specs.Weights.{tabulated}
use Rattle.ranges.proofs.Sums.{sum_zero}
use Rattle.greedy.specs.Greedy.{adding}
use Rattle.greedy.specs.Flags.{bit, flagged, flag_gain, lowered, taken, Tells, Known, one_less, less_held}
use Rattle.greedy.specs.Doubles.{count_but}

-- what holds of the new byte, and of the others
at_set : (ms : List ℕ) (i v : ℕ) → i < length ms → (Q : ℕ → ℕ → Type 0) → Q i v → ((p : ℕ) → (p ≡ i → ⊥) → Q p (get_or ms p 0)) → (p : ℕ) → Q p (get_or (set ms i v) p 0)
at_set ms i v l Q here other p = elim (cases_eq p i) [
  | inl e ↦ subst (λ (q : ℕ). Q q (get_or (set ms i v) q 0)) (sym e) (subst (λ (x : ℕ). Q i x) (sym (get_or-set_same ms i v 0 l)) here)
  | inr d ↦ subst (λ (x : ℕ). Q p x) (sym (get_or-set_other ms i p v 0 d)) (other p d)
]

pub known_set : (S : RangeSpace) (fs ms : List ℕ) (i v : ℕ) → i < length ms → Known S fs ms → Tells v (flag_gain S fs i) → Known S fs (set ms i v)
known_set S fs ms i v l before here =
    at_set ms i v l (λ p x. p < S.points → Tells x (flag_gain S fs p)) (λ _. here) (λ p d. before p)

pub taken_set : (ms : List ℕ) (i v : ℕ) → i < length ms → eqb v 255 ≡ taken ms i → taken (set ms i v) ≡ taken ms
taken_set ms i v l here = fun_ext (at_set ms i v l (λ p x. eqb x 255 ≡ taken ms p) here (λ p d. refl))

pub taken_adding : (ms : List ℕ) (q : ℕ) → q < length ms → taken (set ms q 255) ≡ adding (taken ms) q
taken_adding ms q l = fun_ext (at_set ms q 255 l (λ p x. eqb x 255 ≡ (taken ms p || eqb p q))
    (sym (each (taken ms q) (eqb q q) (eq-eqb q q refl)))
    (λ p d. sym (other (taken ms p) (eqb p q) (ne_eqb p q d))))
  where
    each : (a b : Bool) → b ≡ true → (a || b) ≡ true
    each true b e = refl
    each false b e = e

    other : (a b : Bool) → b ≡ false → (a || b) ≡ a
    other true b e = refl
    other false b e = e

-- at the start no byte says anything
pub taken_none : (n : ℕ) → taken (replicate n 254) ≡ (λ _. false)
taken_none n = fun_ext (λ p. elim (cases_lt p n) [
  | inl l ↦ ap (λ x. eqb x 255) (get_or-replicate n p 254 0 l)
  | inr g ↦ ap (λ x. eqb x 255) (get_or_past (replicate n 254) p 0 (omega (arith, length-replicate {A = ℕ} n 254)))
])

pub known_none : (S : RangeSpace) (fs : List ℕ) → Known S fs (replicate S.points 254)
known_none S fs p l =
    let byte = get_or-replicate {A = ℕ} S.points p 254 0 l in
    ((λ e. absurd (omega arith)), (λ e. absurd (omega arith)))

-- the flag of range i is lowered, and its points have one less to gain
module _ (S : RangeSpace) (fs ms : List ℕ) (i : ℕ) (l : i < S.ranges) (wide : length fs ≡ S.ranges) (up : flagged fs i ≡ true) where
  gain_less : (p : ℕ) → flag_gain S fs p ≡ flag_gain S (set fs i 0) p + bit (S.holds i p)
  gain_less p =
      count_but (λ j. flagged fs j && S.holds j p) (λ j. flagged (set fs i 0) j && S.holds j p) S.ranges i l
      (λ j d. ap (λ x. eqb x 1 && S.holds j p) (sym (get_or-set_other fs i j 0 0 d)))
      (ap (λ x. eqb x 1 && S.holds i p) (get_or-set_same fs i 0 0 (omega arith)))
      ∙ ap (λ b. flag_gain S (set fs i 0) p + cond (b && S.holds i p) 1 0) up

  pub known_less : Known S fs ms → Known S (set fs i 0) (tabulated (less_held S i ms) S.points)
  known_less before p m =
      subst (λ (b : ℕ). Tells b (flag_gain S (set fs i 0) p)) (sym (get_or-map-range_with_len (less_held S i ms) 0 S.points p p 0 m (omega arith)))
      (each (S.holds i p) (get_or ms p 0) (flag_gain S fs p) (flag_gain S (set fs i 0) p) (gain_less p) (before p m))
    where
      lower : (b g : ℕ) → Tells b (g + 1) → (ltb b 254 ≡ true) ⊎ (ltb b 254 ≡ false) → Tells (one_less b) g
      lower b g old (inl t) =
          let at : one_less b ≡ b - 1 = ap (λ c. cond c (b - 1) b) t in
          let low = ltb-true b 254 t in
          ((λ e. absurd (omega arith)), (λ e. omega (arith, old.1 low)))
      lower b g old (inr t) =
          let at : one_less b ≡ b = ap (λ c. cond c (b - 1) b) t in
          let high = ltb-false b 254 t in
          ((λ e. absurd (omega (arith, old.0 (omega arith)))), (λ e. absurd (omega arith)))

      each : (h : Bool) (b g g' : ℕ) → g ≡ g' + bit h → Tells b g → Tells (cond h (one_less b) b) g'
      each true b g g' e old = lower b g' (subst (λ (x : ℕ). Tells b x) e old) (cases_Bool (ltb b 254))
      each false b g g' e old = ((λ d. omega (arith, old.0 d)), (λ d. omega (arith, old.1 d)))

-- one range of a loop that lowers flags: r says whether its flag was up and it holds the point
pub known_hit : (S : RangeSpace) (fs ms ms' : List ℕ) (i v : ℕ) (r h : Bool) → i < S.ranges → length fs ≡ S.ranges → Known S fs ms
    → v ≡ cond r 0 (get_or fs i 0) → r ≡ (flagged fs i && h) → r ≡ true → ms' ≡ tabulated (less_held S i ms) S.points → Known S (set fs i v) ms'
known_hit S fs ms ms' i v r h l wide before new says yes' e =
    let down : v ≡ 0 = new ∙ ap (λ b. cond b 0 (get_or fs i 0)) yes' in
    subst (λ (xs : List ℕ). Known S (set fs i v) xs) (sym e)
    (subst (λ (x : ℕ). Known S (set fs i x) (tabulated (less_held S i ms) S.points)) (sym down)
    (known_less S fs ms i l wide (and_parts (flagged fs i) h (sym says ∙ yes')).0 before))

pub known_kept : (S : RangeSpace) (fs ms ms' : List ℕ) (i v : ℕ) (r : Bool) → Known S fs ms → v ≡ cond r 0 (get_or fs i 0) → r ≡ false → ms' ≡ ms → Known S (set fs i v) ms'
known_kept S fs ms ms' i v r before new no' e =
    let same : set fs i v ≡ fs = ap (λ x. set fs i x) (new ∙ ap (λ b. cond b 0 (get_or fs i 0)) no') ∙ set-get_or fs i 0 in
    subst (λ (xs : List ℕ). Known S (set fs i v) xs) (sym e) (subst (λ (xs : List ℕ). Known S xs ms) (sym same) before)

pub taken_less : (S : RangeSpace) (ms : List ℕ) (i : ℕ) → length ms ≡ S.points → taken (tabulated (less_held S i ms) S.points) ≡ taken ms
taken_less S ms i long = fun_ext (λ p. elim (cases_lt p S.points) [
  | inl l ↦ ap (λ x. eqb x 255) (get_or-map-range_with_len (less_held S i ms) 0 S.points p p 0 l (omega arith)) ∙ each (S.holds i p) (get_or ms p 0) (cases_Bool (ltb (get_or ms p 0) 254))
  | inr g ↦ ap (λ x. eqb x 255) (get_or_past (tabulated (less_held S i ms) S.points) p 0 (omega (arith, length-map-range_with_len (less_held S i ms) 0 S.points)) ∙ sym (get_or_past ms p 0 (omega arith)))
])
  where
    each : (h : Bool) (b : ℕ) → (ltb b 254 ≡ true) ⊎ (ltb b 254 ≡ false) → eqb (cond h (one_less b) b) 255 ≡ eqb b 255
    each false b t = refl
    each true b (inl t) =
        let low = ltb-true b 254 t in
        ap (λ c. eqb (cond c (b - 1) b) 255) t ∙ ne_eqb (b - 1) 255 (λ e. omega arith) ∙ sym (ne_eqb b 255 (λ e. omega arith))
    each true b (inr t) = ap (λ c. eqb (cond c (b - 1) b) 255) t

module _ (S : RangeSpace) (q : ℕ) (fs : List ℕ) where
  -- a flag stays up where the range does not hold the point
  pub flagged_lowered : (j : ℕ) → j < S.ranges → flagged (tabulated (lowered S q fs) S.ranges) j ≡ (flagged fs j && not (S.holds j q))
  flagged_lowered j l =
      ap (λ x. eqb x 1) (get_or-map-range_with_len (lowered S q fs) 0 S.ranges j j 0 l (omega arith)) ∙ each (get_or fs j 0) (S.holds j q) (cases_Bool (eqb (get_or fs j 0) 1))
    where
      each : (x : ℕ) (h : Bool) → (eqb x 1 ≡ true) ⊎ (eqb x 1 ≡ false) → eqb (cond (eqb x 1 && h) 0 x) 1 ≡ (eqb x 1 && not h)
      each x true (inl e) = rw e
      each x false (inl e) = rw (e, e)
      each x h (inr e) = rw (e, e)

  -- the point has no gain left
  pub gain_spent : flag_gain S (tabulated (lowered S q fs) S.ranges) q ≡ 0
  gain_spent = sum_zero _ S.ranges (λ j l. each (flagged fs j) (S.holds j q) (flagged (tabulated (lowered S q fs) S.ranges) j) (flagged_lowered j l))
    where
      each : (a b c : Bool) → c ≡ (a && not b) → ◌≡◌ {A = ℕ} (cond (c && b) 1 0) 0
      each true true c e = rw e
      each true false c e = rw e
      each false b c e = rw e

  pub known_marked : (ms : List ℕ) → q < length ms → Known S (tabulated (lowered S q fs) S.ranges) ms → Known S (tabulated (lowered S q fs) S.ranges) (set ms q 255)
  known_marked ms l before =
      known_set S (tabulated (lowered S q fs) S.ranges) ms q 255 l before ((λ _. gain_spent), (λ e. absurd (omega arith)))
