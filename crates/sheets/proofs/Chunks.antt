-- Bytes as chunks of one length.
use Rattle.std.proofs.Common.{◌≡◌, ℕ, zero, suc, ◌+◌, ◌*◌, ◌/◌, ◌<◌, ◌-◌, Bool, true, false, cond, Ok, Err, ◌&&◌, ◌||◌, eqb, ltb, leb, List, [], length, get_or, take, drop, sym, refl, ap, ◌∙◌, mul-suc, arith}
use Rattle.std.specs.Simd.{first_chunks}
use Rattle.std.specs.List.{list_all, AllAdjacentBelow, IsAllAdjacentAnswer}
use Rattle.std.proofs.lemmas.Bool.{or_right, ne_eqb, and_from, and_left}
use Rattle.std.proofs.lemmas.List.{get_or-take, get_or-drop, drop-drop}
use Rattle.ranges.specs.declared.refusal.Refusal.TheVariants.{BadSheet}
use Rattle.guesses.specs.declared.book.GuessLine.{GuessLine}
use Rattle.sheets.specs.Bytes.{get16}
use Rattle.sheets.specs.Lines.{all_below, verdict_stands, verdicts_stand, verdict_of, line_in, rises_at, stands_at}
use Rattle.sheets.specs.Reading.{points_rise}
use Rattle.sheets.proofs.All.{all_gives, all_from, all_not, all_items, all_alike}

pub length_chunks : {X : Type 0} (n k : ℕ) (xs : List X) → length (first_chunks n k xs) ≡ k
length_chunks n zero xs = refl
length_chunks n (suc k) xs = ap suc (length_chunks n k (drop n xs))

pub chunk_at : {X : Type 0} (n k : ℕ) (xs : List X) (i : ℕ) (d : List X) → i < k → get_or (first_chunks n k xs) i d ≡ take n (drop (n * i) xs)
chunk_at n zero xs i d h = absurd (omega arith)
chunk_at n (suc k) xs zero d h = let z : 0 ≡ n * 0 = omega arith in ap (λ j. take n (drop j xs)) z
chunk_at n (suc k) xs (suc i) d h =
    chunk_at n k (drop n xs) i d (omega arith)
    ∙ ap (take n) (drop-drop (n * i) n xs)
    ∙ (let e : n + n * i ≡ n * suc i = omega (arith, mul-suc n i) in ap (λ j. take n (drop j xs)) e)

-- a number in the n bytes from `at` on
pub front16 : (n at j : ℕ) (xs : List ℕ) → j + 1 < n → get16 (take n (drop at xs)) j ≡ get16 xs (at + j)
front16 n at j xs h =
    let low = get_or-take n (drop at xs) j 0 (omega arith) ∙ get_or-drop at xs j 0 in
    let high = get_or-take n (drop at xs) (j + 1) 0 h ∙ get_or-drop at xs (j + 1) 0 in
    let next : at + (j + 1) ≡ at + j + 1 = omega arith in
    cc

pub all_chunks : (t : List ℕ → Bool) (u : ℕ → Bool) (n k : ℕ) (xs : List ℕ) → ((i : ℕ) → t (take n (drop (n * i) xs)) ≡ u i) → list_all t (first_chunks n k xs) ≡ all_below u k
all_chunks t u n k xs h =
    all_items t (first_chunks n k xs) [] u (λ i l. ap t (chunk_at n k xs i [] (omega (arith, length_chunks n k xs))) ∙ h i)
    ∙ ap (all_below u) (length_chunks n k xs)

-- every line of a book has a verdict
pub all_verdicts : (b : List ℕ) → list_all (λ l. verdict_stands l 0) (first_chunks 8 (length b / 8) b) ≡ verdicts_stand b
all_verdicts b = all_chunks (λ l. verdict_stands l 0) (verdict_stands b) 8 (length b / 8) b (λ i. ap (λ x. leb x 3) (front16 8 (8 * i) 4 b (omega arith)))

-- line i of a book whose lines have verdicts
line_piece : (b : List ℕ) (i : ℕ) → line_in (take 8 (drop (8 * i) b)) 0 ≡ line_in b i
line_piece b i =
    let c = take 8 (drop (8 * i) b) in
    let line : ℕ → ℕ → ℕ → ℕ → GuessLine = λ k d v p. record { k = k; doublings = d; verdict = verdict_of v p } in
    ap (λ k. line k (get16 c 2) (get16 c 4) (get16 c 6)) (front16 8 (8 * i) 0 b (omega arith) ∙ ap (get16 b) (omega arith))
    ∙ ap (λ d. line (get16 b (8 * i)) d (get16 c 4) (get16 c 6)) (front16 8 (8 * i) 2 b (omega arith))
    ∙ ap (λ v. line (get16 b (8 * i)) (get16 b (8 * i + 2)) v (get16 c 6)) (front16 8 (8 * i) 4 b (omega arith))
    ∙ ap (line (get16 b (8 * i)) (get16 b (8 * i + 2)) (get16 b (8 * i + 4))) (front16 8 (8 * i) 6 b (omega arith))

pub line_found : (b : List ℕ) (i : ℕ) → verdicts_stand b ≡ true → i < length b / 8 → cond (verdict_stands (take 8 (drop (8 * i) b)) 0) (Ok (line_in (take 8 (drop (8 * i) b)) 0)) (Err BadSheet) ≡ Ok (line_in b i)
line_found b i all h =
    let here = ap (λ x. leb x 3) (front16 8 (8 * i) 4 b (omega arith)) ∙ all_gives (verdict_stands b) (length b / 8) i all h in
    ap (λ x. cond x (Ok (line_in (take 8 (drop (8 * i) b)) 0)) (Err BadSheet)) here ∙ ap Ok (line_piece b i)

-- the points lie below n, and each above the one before it
pub number_at : (b : List ℕ) (i : ℕ) → i < length b / 2 → get16 (get_or (first_chunks 2 (length b / 2) b) i []) 0 ≡ get16 b (2 * i)
number_at b i h =
    ap (λ c. get16 c 0) (chunk_at 2 (length b / 2) b i [] h)
    ∙ front16 2 (2 * i) 0 b (omega arith)
    ∙ ap (get16 b) (omega arith)

pub all_rise : (b : List ℕ) (n : ℕ) → all_below (stands_at (first_chunks 2 (length b / 2) b) n) (length (first_chunks 2 (length b / 2) b)) ≡ points_rise b n
all_rise b n =
    let k = length b / 2 in
    let cs = first_chunks 2 k b in
    ap (all_below (stands_at cs n)) (length_chunks 2 k b)
    ∙ all_alike _ _ k (λ i l.
    ap (λ x. ltb x n && (eqb i 0 || ltb (get16 (get_or cs (i - 1) []) 0) x)) (number_at b i l)
    ∙ ap (λ x. ltb (get16 b (2 * i)) n && (eqb i 0 || ltb x (get16 b (2 * i)))) (number_at b (i - 1) (omega arith)))

rises_from : (ps : List (List ℕ)) (n : ℕ) → AllAdjacentBelow (λ x y. true ≡ (ltb (get16 y 0) n && ltb (get16 x 0) (get16 y 0))) ps (length ps) → (i : ℕ) → i < length ps → rises_at ps n i ≡ true
rises_from ps n h zero l = refl
rises_from ps n h (suc i) l =
    let before : suc i - 1 ≡ i = omega arith in
    let next : suc i ≡ i + 1 = omega arith in
    or_right (eqb (suc i) 0) _ (rw before (rw next (sym (h i [] (omega arith)))))

pub rises_sorted : (ps : List (List ℕ)) (n : ℕ) (r : Bool) → IsAllAdjacentAnswer (λ x y b. b ≡ (ltb (get16 y 0) n && ltb (get16 x 0) (get16 y 0))) ps r → r ≡ all_below (rises_at ps n) (length ps)
rises_sorted ps n true h = sym (all_from (rises_at ps n) (length ps) (rises_from ps n h))
rises_sorted ps n false (k, l, e) =
    let before : k + 1 - 1 ≡ k = omega arith in
    sym (all_not (rises_at ps n) (length ps) (k + 1) l (ap (λ b. b || (ltb (get16 (get_or ps (k + 1) []) 0) n && ltb (get16 (get_or ps (k + 1 - 1) []) 0) (get16 (get_or ps (k + 1) []) 0))) (ne_eqb (k + 1) 0 (λ z. omega arith)) ∙ rw before (sym (e []))))

-- the first lies below n, and the others rise
pub first_rises : (ps : List (List ℕ)) (n : ℕ) → ltb (get16 (get_or ps 0 []) 0) n ≡ true → all_below (rises_at ps n) (length ps) ≡ all_below (stands_at ps n) (length ps)
first_rises ps n first = all_alike (rises_at ps n) (stands_at ps n) (length ps) each
  where
    each : (i : ℕ) → i < length ps → rises_at ps n i ≡ stands_at ps n i
    each zero l = sym (and_from _ _ first refl)
    each (suc i) l = let e = ne_eqb (suc i) 0 (λ z. omega arith) in rw e refl

pub first_fails : (ps : List (List ℕ)) (n : ℕ) → 0 < length ps → ltb (get16 (get_or ps 0 []) 0) n ≡ false → all_below (stands_at ps n) (length ps) ≡ false
first_fails ps n some first = all_not (stands_at ps n) (length ps) 0 some (and_left _ _ first)
