-- What a chain over the numbers below n finds, in the words of the searches.
use Rattle.std.proofs.Common.{◌≡◌, ℕ, zero, suc, ◌+◌, ◌<◌, Bool, true, false, cond, List, [], ◌∷◌, ◌++◌, map, length, get_or, Some, None, Option, sym, refl, ap, ◌∙◌, subst, add-zero, add-one, inl, inr, arith}
use Rattle.std.specs.List.{filter, sum_by}
use Rattle.std.proofs.lemmas.Bool.{cases_Bool}
use Rattle.std.proofs.lemmas.List.Sums.{sum_by-append, sum_by-cons, sum_by_push}
use Rattle.std.proofs.lemmas.List.FromFn.{filter_of_map_range_with_len_more, sum_by-map-range_with_len_more}
use Rattle.std.specs.List.{zip}
use Rattle.ranges.specs.Below.{sum_below, count_below}
use Rattle.std.specs.Fn.{Called}
use Rattle.std.specs.Iterator.{Drains}
use Rattle.std.specs.List.{FoldsTo}
use Rattle.std.proofs.lemmas.Fn.{fold_over}
use Rattle.std.proofs.lemmas.Iterator.{YieldsList}
use Rattle.ranges.specs.Weights.{capped, range_of}
use Rattle.ranges.specs.declared.number.RangeNumber.{RangeNumber}
use Rattle.ranges.proofs.Sums.{sum_suc, sum_front, sum_same, sum_zero}
use denote.Param.Members.{Mut}
use Rattle.std.specs.Bool.{MatchBool}
use Rattle.std.specs.Option.{MatchOption}
use Rattle.std.specs.List.{range_with_len, HoldsAt, AllWithin}
use Rattle.std.proofs.lemmas.List.FromFn.{length-map-range_with_len, get_or-map-range_with_len}
use Rattle.ranges.specs.Below.{any_below, least_below}
use Rattle.ranges.proofs.Searches.{any_found, any_not, least_here, least_not}

-- the numbers below n, each wrapped
abbrev pub numbers : {X : Type 0} → (ℕ → X) → ℕ → List X
numbers mk n = map mk (range_with_len 0 n)

-- one number more, if it passes
pub numbers_more : {X : Type 0} (mk : ℕ → X) (t : X → Bool) (n : ℕ) → filter t (numbers mk (suc n)) ≡ filter t (numbers mk n) ++ cond (t (mk n)) (mk n ∷ []) []
numbers_more mk t n =
    subst (λ (s : ℕ). filter t (numbers mk s) ≡ filter t (numbers mk n) ++ cond (t (mk n)) (mk n ∷ []) []) (add-one n)
    (filter_of_map_range_with_len_more t mk 0 n n (omega arith))

module _ {X : Type 0} (mk : ℕ → X) (t : X → Bool) (n : ℕ) where
  pub any_in_numbers : (r : Bool) → MatchBool r ((k : ℕ) × (k < length (numbers mk n)) × HoldsAt (λ x. t x ≡ true) (numbers mk n) k) (AllWithin (λ x. t x ≡ false) (numbers mk n) 0 (length (numbers mk n))) → r ≡ any_below (λ k. t (mk k)) n
  any_in_numbers true (k, l, is) =
      let below : k < n = omega (arith, length-map-range_with_len mk 0 n) in
      sym (any_found (λ i. t (mk i)) n k below (sym (ap t (get_or-map-range_with_len mk 0 n k k (mk k) below (omega arith))) ∙ is (mk k)))
  any_in_numbers false all =
      sym (any_not (λ i. t (mk i)) n (λ i l. sym (ap t (get_or-map-range_with_len mk 0 n i i (mk i) l (omega arith))) ∙ all i (mk i) (omega arith) (omega (arith, length-map-range_with_len mk 0 n))))

  -- the first that passes
  pub first_in_numbers : (of : X → ℕ) → ((k : ℕ) → of (mk k) ≡ k) → (r : Option X) → MatchOption r (AllWithin (λ x. t x ≡ false) (numbers mk n) 0 (length (numbers mk n))) (λ x. (t x ≡ true) × (i : ℕ) × (i < length (numbers mk n)) × HoldsAt (λ y. y ≡ x) (numbers mk n) i × AllWithin (λ y. t y ≡ false) (numbers mk n) 0 i) → MatchOption r (least_below (λ k. t (mk k)) n ≡ None) (λ x. least_below (λ k. t (mk k)) n ≡ Some (of x))
  first_in_numbers of back None all =
      least_not (λ i. t (mk i)) n (λ i l. sym (ap t (get_or-map-range_with_len mk 0 n i i (mk i) l (omega arith))) ∙ all i (mk i) (omega arith) (omega (arith, length-map-range_with_len mk 0 n)))
  first_in_numbers of back (Some x) (passed, i, l, at, before) =
      let below : i < n = omega (arith, length-map-range_with_len mk 0 n) in
      let is : mk i ≡ x = sym (get_or-map-range_with_len mk 0 n i i (mk i) below (omega arith)) ∙ at (mk i) in
      let passes : t (mk i) ≡ true = ap t is ∙ passed in
      let none = least_not (λ k. t (mk k)) i (λ k m. sym (ap t (get_or-map-range_with_len mk 0 n k k (mk k) (omega arith) (omega arith))) ∙ before k (mk k) (omega arith) m) in
      least_here (λ k. t (mk k)) i n below none passes ∙ ap Some (sym (back i) ∙ ap of is)

-- the sum over all of them
pub sum_of_numbers : {X : Type 0} (mk : ℕ → X) (f : X → ℕ) (n : ℕ) → sum_by f (numbers mk n) ≡ sum_below (λ k. f (mk k)) n
sum_of_numbers mk f zero = refl
sum_of_numbers mk f (suc n) =
    subst (λ (s : ℕ). sum_by f (numbers mk s) ≡ sum_by f (numbers mk n) + f (mk n)) (add-one n) (sum_by-map-range_with_len_more f mk 0 n n (omega arith))
    ∙ omega (arith, sum_of_numbers mk f n, sum_suc (λ k. f (mk k)) n)

-- a fold that adds f of each item, where what a sum keeps of a number keeps the sums with it
pub kept_fold : {S A X F : Type 0} {steps : S → Option A → S → Type 0} {v : A → X} {s : S} {all : List X} (kept : ℕ → ℕ) (none : 0 ≡ kept 0) (sums : (n m : ℕ) → kept (kept n + m) ≡ kept (n + m)) (g : Mut F (ℕ × (A × Unit {0})) ℕ) (q : F) (f : X → ℕ) (r : ℕ) → (xs : List A) × (f' : F) × Drains steps s xs × FoldsTo {P = F × ℕ} (λ p x u. Called g p.0 (p.1, (x, tt)) u.1 u.0) (q, 0) xs (f', r) → YieldsList steps v s all → ((a b : ℕ) (x : A) (u : F) → a ≡ kept (a + 0) → Called g q (a, (x, tt)) b u → (b ≡ kept (a + f (v x))) × (u ≡ q)) → r ≡ kept (sum_by f all)
kept_fold {steps} {v} {s} kept none sums g q f r ran road step =
    fold_over steps v g (λ ys a. a ≡ kept (sum_by f ys)) q
    (λ ys a x b u before k. (
    let so_far : a ≡ kept (a + 0) = before ∙ ap kept (sym (add-zero (sum_by f ys))) ∙ sym (sums (sum_by f ys) 0) ∙ ap (λ n. kept (n + 0)) (sym before) in
    let one = step a b x u so_far k in
    (one.0 ∙ ap (λ n. kept (n + f (v x))) before ∙ sums (sum_by f ys) (f (v x)) ∙ ap kept (sym (sum_by_push f ys (v x))), one.1)))
    s _ 0 r road.runs none ran

-- a sum that stays at the largest number
pub capped_sums : (n m : ℕ) → capped (capped n + m) ≡ capped (n + m)
capped_sums n m = omega arith

-- the sum over a list, by its places
pub sum_by_places : (ws : List ℕ) → sum_by (λ w. w) ws ≡ sum_below (λ i. get_or ws i 0) (length ws)
sum_by_places [] = refl
sum_by_places (w ∷ ws) =
    let front : sum_below (λ i. get_or (w ∷ ws) i 0) (length (w ∷ ws)) ≡ w + sum_below (λ i. get_or ws i 0) (length ws) = sum_front (λ i. get_or (w ∷ ws) i 0) (length ws) in
    omega (arith, sum_by_places ws, front, sum_by-cons (λ x. x) w ws)

-- the number of the range that is found
pub range_found : (r : Option RangeNumber) (o : Option ℕ) → MatchOption r (o ≡ None) (λ j. o ≡ Some j.0) → range_of r ≡ o
range_found None o e = sym e
range_found (Some j) o e = sym e

-- the sum of 1 for each of the numbers below n that passes with the byte that a list has for it, where no number passes with 0
module _ {X : Type 0} (mk : ℕ → X) (t : X → ℕ → Bool) (none : (x : X) → t x 0 ≡ false) where
  zipped : (a n : ℕ) (bs : List ℕ) → sum_by (λ q. cond (t q.0 q.1) 1 0) (zip (map mk (range_with_len a n)) bs) ≡ count_below (λ i. t (mk (a + i)) (get_or bs i 0)) n
  zipped a zero bs = refl
  zipped a (suc n) [] = sym (sum_zero (λ i. cond (t (mk (a + i)) 0) 1 0) (suc n) (λ i l. ap (λ b. cond b 1 0) (none (mk (a + i)))))
  zipped a (suc n) (b ∷ bs) =
      let front : count_below (λ i. t (mk (a + i)) (get_or (b ∷ bs) i 0)) (suc n) ≡ cond (t (mk (a + 0)) b) 1 0 + sum_below (λ i. cond (t (mk (a + suc i)) (get_or bs i 0)) 1 0) n = sum_front (λ i. cond (t (mk (a + i)) (get_or (b ∷ bs) i 0)) 1 0) n in
      let same = sum_same (λ i. cond (t (mk (a + 1 + i)) (get_or bs i 0)) 1 0) (λ i. cond (t (mk (a + suc i)) (get_or bs i 0)) 1 0) n (λ i l. ap (λ k. cond (t (mk k) (get_or bs i 0)) 1 0) (omega arith)) in
      let first : ◌≡◌ {A = ℕ} (cond (t (mk (a + 0)) b) 1 0) (cond (t (mk a) b) 1 0) = ap (λ k. cond (t (mk k) b) 1 0) (omega arith) in
      sum_by-cons (λ q. cond (t q.0 q.1) 1 0) (mk a, b) (zip (map mk (range_with_len (a + 1) n)) bs) ∙ omega (arith, zipped (a + 1) n bs, front, same, first)

  pub sum_zipped : (n : ℕ) (bs : List ℕ) → sum_by (λ q. cond (t q.0 q.1) 1 0) (zip (numbers mk n) bs) ≡ count_below (λ i. t (mk i) (get_or bs i 0)) n
  sum_zipped n bs = zipped 0 n bs ∙ sum_same _ _ n (λ i l. ap (λ k. cond (t (mk k) (get_or bs i 0)) 1 0) (omega arith))
