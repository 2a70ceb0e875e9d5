-- The chosen points.
use Rattle.std.proofs.Common.{◌≡◌, ℕ, zero, suc, ◌+◌, ◌<◌, ◌≤◌, Bool, true, false, cond, List, [], ◌∷◌, ◌++◌, length, get_or, sym, refl, ap, ◌∙◌, ◌==◌, take, inl, inr, eq-or-lt_of_le, add-one, arith, length-append}
use Rattle.std.specs.List.{count_by}
use Rattle.std.proofs.lemmas.List.Sums.{count_by_more_yes, count_by_more_no}
use Rattle.std.proofs.lemmas.List.{append-nil, take_all, get_or_append_left, get_or_push, length_push}
use Rattle.std.proofs.lemmas.Bool.{cases_lt, cases_Bool, eq-eqb, ne_eqb}
use Rattle.ranges.specs.Weights.{marked}
use Rattle.sheets.specs.Sheets.{chosen_below, chosen_at, chosen_points}

chosen_suc : (ms : List ℕ) (p : ℕ) → chosen_below ms (suc p) ≡ chosen_below ms p ++ chosen_at ms p
chosen_suc ms p = refl

pub chosen_more : (ms : List ℕ) (p : ℕ) → chosen_below ms (p + 1) ≡ chosen_below ms p ++ chosen_at ms p
chosen_more ms p = rw add-one (chosen_suc ms p)

pub length_chosen_more : (ms : List ℕ) (p : ℕ) → length (chosen_below ms (p + 1)) ≡ length (chosen_below ms p) + length (chosen_at ms p)
length_chosen_more ms p = ap length (chosen_more ms p) ∙ length-append (chosen_below ms p) (chosen_at ms p)

one_or_none : (b : Bool) (p : ℕ) → length (cond b (p ∷ []) []) ≡ cond b 1 0
one_or_none true p = refl
one_or_none false p = refl

one_at_most : (b : Bool) (p : ℕ) → length (cond b (p ∷ []) []) ≤ 1
one_at_most true p = omega arith
one_at_most false p = omega arith

pub length_chosen_le : (ms : List ℕ) (p : ℕ) → length (chosen_below ms p) ≤ p
length_chosen_le ms zero = omega arith
length_chosen_le ms (suc p) =
    omega (arith, length_chosen_le ms p, length-append (chosen_below ms p) (chosen_at ms p), one_at_most (marked ms p) p)

-- those below p are among those below n
pub length_chosen_mono : (ms : List ℕ) (p n : ℕ) → p ≤ n → length (chosen_below ms p) ≤ length (chosen_below ms n)
length_chosen_mono ms p zero h = let e : p ≡ 0 = omega arith in rw e (omega arith)
length_chosen_mono ms p (suc n) h = elim (eq-or-lt_of_le h) [
  | inl e ↦ rw e (omega arith)
  | inr l ↦ omega (arith, length_chosen_mono ms p n (omega arith), length-append (chosen_below ms n) (chosen_at ms n))
]

-- one more if the next point is marked
pub counted_more : (ms : List ℕ) (p : ℕ) (b : Bool) → b ≡ marked ms p → length (chosen_below ms (p + 1)) ≡ length (chosen_below ms p) + cond b 1 0
counted_more ms p b e = length_chosen_more ms p ∙ ap (λ n. length (chosen_below ms p) + n) (rw (sym e) (one_or_none b p))

-- what is pushed lies above all before it
pushed_below : (xs : List ℕ) (p i : ℕ) (b : Bool) → ((j : ℕ) → j < length xs → get_or xs j 0 < p) → i < length (xs ++ cond b (p ∷ []) []) → get_or (xs ++ cond b (p ∷ []) []) i 0 < suc p
pushed_below xs p i true h l = elim (cases_lt i (length xs)) [
  | inl m ↦ rw (get_or_append_left xs (p ∷ []) 0 i m) (omega (arith, h i m))
  | inr m ↦ (let e : length xs ≡ i = omega (arith, length_push xs p) in rw (get_or_push xs p 0 i e) (omega arith))
]
pushed_below xs p i false h l = let e = append-nil xs in rw e (omega (arith, h i (rw e at l)))

pub chosen_below_lem : (ms : List ℕ) (n i : ℕ) → i < length (chosen_below ms n) → get_or (chosen_below ms n) i 0 < n
chosen_below_lem ms zero i l = absurd (omega arith)
chosen_below_lem ms (suc n) i l = pushed_below (chosen_below ms n) n i (marked ms n) (chosen_below_lem ms n) l

pushed_rise : (xs : List ℕ) (p i : ℕ) (b : Bool) → ((j : ℕ) → j < length xs → get_or xs j 0 < p) → ((j : ℕ) → j + 1 < length xs → get_or xs j 0 < get_or xs (j + 1) 0) → i + 1 < length (xs ++ cond b (p ∷ []) []) → get_or (xs ++ cond b (p ∷ []) []) i 0 < get_or (xs ++ cond b (p ∷ []) []) (i + 1) 0
pushed_rise xs p i true h r l =
    let here : i < length xs = omega (arith, length_push xs p) in
    let first = get_or_append_left xs (p ∷ []) 0 i here in
    elim (cases_lt (i + 1) (length xs)) [
      | inl m ↦ rw (first, get_or_append_left xs (p ∷ []) 0 (i + 1) m) (r i m)
      | inr m ↦ (let e : length xs ≡ i + 1 = omega arith in rw (first, get_or_push xs p 0 (i + 1) e) (h i here))
    ]
pushed_rise xs p i false h r l = let e = append-nil xs in rw e (r i (rw e at l))

pub chosen_rise : (ms : List ℕ) (n i : ℕ) → i + 1 < length (chosen_below ms n) → get_or (chosen_below ms n) i 0 < get_or (chosen_below ms n) (i + 1) 0
chosen_rise ms zero i l = absurd (omega arith)
chosen_rise ms (suc n) i l = pushed_rise (chosen_below ms n) n i (marked ms n) (chosen_below_lem ms n) (chosen_rise ms n) l

-- where the next point is marked, and where it is not
pub chosen_here : (ms : List ℕ) (p : ℕ) → get_or ms p 0 ≡ 1 → chosen_below ms (p + 1) ≡ chosen_below ms p ++ p ∷ []
chosen_here ms p e = chosen_more ms p ∙ ap (λ b. chosen_below ms p ++ cond b (p ∷ []) []) (eq-eqb (get_or ms p 0) 1 e)

pub chosen_room : (ms : List ℕ) (p : ℕ) → p < length ms → get_or ms p 0 ≡ 1 → length (chosen_below ms p) + 1 ≤ length (chosen_points ms)
chosen_room ms p h e =
    let here = ap length (chosen_here ms p e) in
    omega (arith, here, length_push (chosen_below ms p) p, length_chosen_mono ms (p + 1) (length ms) (omega arith))

pub chosen_past : (ms : List ℕ) (p : ℕ) → ¬ (get_or ms p 0 ≡ 1) → chosen_below ms (p + 1) ≡ chosen_below ms p
chosen_past ms p e =
    chosen_more ms p ∙ ap (λ b. chosen_below ms p ++ cond b (p ∷ []) []) (ne_eqb (get_or ms p 0) 1 e) ∙ append-nil (chosen_below ms p)

-- as many as there are marks
counted_next : (ms : List ℕ) (p : ℕ) → p < length ms → length (chosen_below ms p) ≡ count_by (λ m. m == 1) (take p ms) → length (chosen_below ms (p + 1)) ≡ count_by (λ m. m == 1) (take (p + 1) ms)
counted_next ms p h e = elim (cases_Bool (marked ms p)) [
  | inl here ↦ omega (arith, e, counted_more ms p true (sym here), count_by_more_yes (λ m. m == 1) ms p 0 h here)
  | inr past ↦ omega (arith, e, counted_more ms p false (sym past), count_by_more_no (λ m. m == 1) ms p 0 h past)
]

counted_front : (ms : List ℕ) (p : ℕ) → p ≤ length ms → length (chosen_below ms p) ≡ count_by (λ m. m == 1) (take p ms)
counted_front [] zero h = refl
counted_front (m ∷ ms) zero h = refl
counted_front ms (suc p) h =
    let next = counted_next ms p (omega arith) (counted_front ms p (omega arith)) in
    rw add-one at next

pub counted_marks : (ms : List ℕ) → count_by (λ m. m == 1) ms ≡ length (chosen_points ms)
counted_marks ms = sym (counted_front ms (length ms) (omega arith) ∙ ap (count_by (λ m. m == 1)) (take_all (length ms) ms (omega arith)))
