-- A list whose front passes a test: the count says where the front ends.
use Rattle.std.proofs.Common.{◌≡◌, ℕ, zero, suc, ◌<◌, ◌≤◌, Bool, true, false, ltb, List, length, get_or, take, count_by, refl, sym, ap, ◌∙◌, inl, inr, add-one, arith}
use Rattle.std.specs.List.Sorted.{IsPartitionedBy, IsPartitionPoint}
use Rattle.std.proofs.lemmas.Bool.{cases_Bool}
use Rattle.std.proofs.lemmas.List.{take_all}
use Rattle.std.proofs.lemmas.List.Sums.{count_by_more_yes, count_by_more_no}
use Rattle.ranges.specs.Below.{count_below}
use Rattle.ranges.proofs.Sums.{count_yes, count_no, count_front, front_count}

module _ {X : Type 0} (p : X → Bool) (xs : List X) (d : X) where
  passes : ℕ → Bool
  passes i = p (get_or xs i d)

  count_so_far : (n : ℕ) → n ≤ length xs → count_by p (take n xs) ≡ count_below (λ i. p (get_or xs i d)) n
  count_so_far zero few = refl
  count_so_far (suc n) few =
      let before = count_so_far n (omega arith) in
      elim (cases_Bool (p (get_or xs n d))) [
        | inl pass ↦ (
            let step = rw add-one at (count_by_more_yes p xs n d (omega arith) pass) in
            omega (arith, step, before, count_yes (λ i. p (get_or xs i d)) n pass))
        | inr fail ↦ (
            let step = rw add-one at (count_by_more_no p xs n d (omega arith) fail) in
            omega (arith, step, before, count_no (λ i. p (get_or xs i d)) n fail))
      ]

  count_all : count_by p xs ≡ count_below (λ i. p (get_or xs i d)) (length xs)
  count_all = ap (count_by p) (sym (take_all (length xs) xs (omega arith))) ∙ count_so_far (length xs) (omega arith)

  -- an element passes just where its place is below the count
  pub in_front : IsPartitionedBy p xs → (k : ℕ) → k < length xs → p (get_or xs k d) ≡ ltb k (count_by p xs)
  in_front parted k l =
      front_count (λ i. p (get_or xs i d)) (length xs) (λ i j le below. parted i j d le below) k l ∙ ap (ltb k) (sym count_all)

  pub front_ends : (i : ℕ) → i ≤ length xs → IsPartitionPoint (λ y. p y ≡ true) (λ y. p y ≡ false) xs i → count_by p xs ≡ i
  front_ends i few point =
      count_all ∙ count_front (λ k. p (get_or xs k d)) (length xs) i few (λ k l. point.0 k d (omega arith) l) (λ k from l. point.1 k d from l)
