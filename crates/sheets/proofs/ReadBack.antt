-- The reader accepts a whole sheet and reads back what it was made of.
use Rattle.std.proofs.Common.{◌≡◌, ℕ, zero, suc, ◌+◌, ◌-◌, ◌*◌, ◌/◌, ◌%◌, ◌<◌, ◌≤◌, true, eqb, ltb, List, ◌++◌, length, get_or, take, sym, refl, ap, ◌∙◌, arith}
use Rattle.std.proofs.lemmas.List.{take_at, drop_at}
use Rattle.std.proofs.lemmas.Bool.{and_from, or_right, le-leb, lt-ltb, eq-eqb}
use Rattle.guesses.specs.declared.book.GuessLine.{GuessLine}
use Rattle.guesses.specs.declared.book.Verdict.{Verdict}
use Rattle.guesses.specs.declared.book.Verdict.TheVariants.{Open, Hit, RuledOut, GivenUp}
use Rattle.guesses.specs.Books.{no_line}
use Rattle.ranges.specs.Weights.{tabulated}
use Rattle.sheets.specs.declared.trailer.Trailer.{Trailer}
use Rattle.sheets.specs.Bytes.{Fit, bytes16, get16, numbers_bytes}
use Rattle.sheets.specs.Trailers.{trailer_bytes, trailer_at}
use Rattle.sheets.specs.Sheets.{code, hit_points, line_bytes, LineFits, book_bytes, BookFits, chosen_points}
use Rattle.sheets.specs.Reading.{part, verdict_of, line_in, verdict_stands, book_stands, point_stands, points_stand}
use Rattle.sheets.proofs.All.{all_from}
use Rattle.sheets.proofs.Numbers.{back16, back32, behind16, behind32, joined16, tabulated_back}
use Rattle.sheets.proofs.Points.{chosen_below_lem, chosen_rise}
use Rattle.sheets.proofs.Stores.{length_joined}

-- the trailer behind anything
pub record TrailerFits (t : Trailer) : Type 0 where
  pub book : t.book < 4294967296
  pub points : t.points < 4294967296
  pub ledger : t.ledger < 4294967296
  pub n : Fit t.n
  pub floor : Fit t.floor

pub trailer_back : (X : List ℕ) (t : Trailer) (at : ℕ) → at ≡ length X → TrailerFits t → trailer_at (X ++ trailer_bytes t) at ≡ t
trailer_back X t at e h =
    let a = behind32 X (trailer_bytes t) at 0 (omega arith) ∙ back32 t.book h.book in
    let b = behind32 X (trailer_bytes t) (at + 4) 4 (omega arith) ∙ back32 t.points h.points in
    let c = behind32 X (trailer_bytes t) (at + 8) 8 (omega arith) ∙ back32 t.ledger h.ledger in
    let d = behind16 X (trailer_bytes t) (at + 12) 12 (omega arith) ∙ back16 t.n h.n in
    let f = behind16 X (trailer_bytes t) (at + 14) 14 (omega arith) ∙ back16 t.floor h.floor in
    let all : ◌≡◌ {A = Trailer} (trailer_at (X ++ trailer_bytes t) at) (record { book = t.book; points = t.points; ledger = t.ledger; n = t.n; floor = t.floor }) = cc in
    all

-- a part behind one front and before one rest
pub part_back : (L B R : List ℕ) (i j : ℕ) → i ≡ length L → j ≡ i + length B → part (L ++ (B ++ R)) i j ≡ B
part_back L B R i j e f =
    let n : j - i ≡ length B = omega arith in
    ap (take (j - i)) (drop_at L (B ++ R) i (sym e)) ∙ take_at B R (j - i) (sym n)

-- the book
verdict_back : (v : Verdict) → verdict_of (code v) (hit_points v) ≡ v
verdict_back Open = refl
verdict_back (Hit p) = refl
verdict_back RuledOut = refl
verdict_back GivenUp = refl

code_most : (v : Verdict) → code v ≤ 3
code_most Open = omega arith
code_most (Hit p) = omega arith
code_most RuledOut = omega arith
code_most GivenUp = omega arith

pub length_book : (ls : List GuessLine) → length (book_bytes ls) ≡ 8 * length ls
length_book ls = length_joined line_bytes 8 (λ l. refl) ls

book_at : (ls : List GuessLine) (i j : ℕ) → i < length ls → j + 1 < 8 → get16 (book_bytes ls) (8 * i + j) ≡ get16 (line_bytes (get_or ls i no_line)) j
book_at ls i j h l = joined16 line_bytes 8 (λ l. refl) no_line ls i j h l

code_at : (ls : List GuessLine) (i : ℕ) → i < length ls → get16 (book_bytes ls) (8 * i + 4) ≡ code (get_or ls i no_line).verdict
code_at ls i h = book_at ls i 4 h (omega arith) ∙ back16 (code (get_or ls i no_line).verdict) (omega (arith, code_most (get_or ls i no_line).verdict))

line_back : (ls : List GuessLine) (i : ℕ) → i < length ls → LineFits (get_or ls i no_line) → line_in (book_bytes ls) i ≡ get_or ls i no_line
line_back ls i h fits =
    let z : 8 * i ≡ 8 * i + 0 = omega arith in
    let a = ap (get16 (book_bytes ls)) z ∙ book_at ls i 0 h (omega arith) ∙ back16 (get_or ls i no_line).k fits.guess in
    let b = book_at ls i 2 h (omega arith) ∙ back16 (get_or ls i no_line).doublings fits.doublings in
    let c = code_at ls i h in
    let d = book_at ls i 6 h (omega arith) ∙ back16 (hit_points (get_or ls i no_line).verdict) fits.points in
    let v = ap (λ x. verdict_of x (get16 (book_bytes ls) (8 * i + 6))) c ∙ ap (λ y. verdict_of (code (get_or ls i no_line).verdict) y) d ∙ verdict_back (get_or ls i no_line).verdict in
    let all : ◌≡◌ {A = GuessLine} (line_in (book_bytes ls) i) (record { k = (get_or ls i no_line).k; doublings = (get_or ls i no_line).doublings; verdict = (get_or ls i no_line).verdict }) = cc in
    all

pub guesses_back : (ls : List GuessLine) → BookFits ls (length ls) → tabulated (line_in (book_bytes ls)) (length (book_bytes ls) / 8) ≡ ls
guesses_back ls fit =
    tabulated_back (line_in (book_bytes ls)) ls _ no_line (omega (arith, length_book ls)) (λ i l. line_back ls i l (fit i l))

pub book_stands_lem : (ls : List GuessLine) → length ls ≤ 24 → book_stands (book_bytes ls) ≡ true
book_stands_lem ls few =
    let n : length (book_bytes ls) / 8 ≡ length ls = omega (arith, length_book ls) in
    and_from _ _ (eq-eqb (length (book_bytes ls) % 8) 0 (omega (arith, length_book ls)))
    (and_from _ _ (le-leb (length (book_bytes ls) / 8) 24 (omega arith))
    (all_from (verdict_stands (book_bytes ls)) (length (book_bytes ls) / 8) (λ i l. le-leb _ 3 (rw (code_at ls i (omega arith)) (code_most (get_or ls i no_line).verdict)))))

-- the points
pub length_numbers : (xs : List ℕ) → length (numbers_bytes xs) ≡ 2 * length xs
length_numbers xs = length_joined bytes16 2 (λ x. refl) xs

number_at : (xs : List ℕ) (i : ℕ) → i < length xs → Fit (get_or xs i 0) → get16 (numbers_bytes xs) (2 * i) ≡ get_or xs i 0
number_at xs i h fit =
    let z : 2 * i ≡ 2 * i + 0 = omega arith in
    ap (get16 (numbers_bytes xs)) z ∙ joined16 bytes16 2 (λ x. refl) 0 xs i 0 h (omega arith) ∙ back16 (get_or xs i 0) fit

module _ (ms : List ℕ) (few : length ms ≤ 4096) where
  point_at : (i : ℕ) → i < length (chosen_points ms) → get16 (numbers_bytes (chosen_points ms)) (2 * i) ≡ get_or (chosen_points ms) i 0
  point_at i l = number_at (chosen_points ms) i l (omega (arith, chosen_below_lem ms (length ms) i l))

  point_below : (i : ℕ) → i < length (chosen_points ms) → ltb (get16 (numbers_bytes (chosen_points ms)) (2 * i)) (length ms) ≡ true
  point_below i l = lt-ltb _ (length ms) (rw (point_at i l) (chosen_below_lem ms (length ms) i l))

  point_stands_lem : (i : ℕ) → i < length (chosen_points ms) → point_stands (numbers_bytes (chosen_points ms)) (length ms) i ≡ true
  point_stands_lem zero l = and_from _ _ (point_below zero l) refl
  point_stands_lem (suc i) l =
      let before : suc i - 1 ≡ i = omega arith in
      let next : suc i ≡ i + 1 = omega arith in
      let rise : get_or (chosen_points ms) i 0 < get_or (chosen_points ms) (suc i) 0 = rw next (chosen_rise ms (length ms) i (omega arith)) in
      and_from _ _ (point_below (suc i) l)
      (or_right (eqb (suc i) 0) _ (lt-ltb _ _ (rw (before, point_at i (omega arith), point_at (suc i) l) rise)))

  pub points_stand_lem : points_stand (numbers_bytes (chosen_points ms)) (length ms) ≡ true
  points_stand_lem =
      let n : length (numbers_bytes (chosen_points ms)) / 2 ≡ length (chosen_points ms) = omega (arith, length_numbers (chosen_points ms)) in
      and_from _ _ (eq-eqb (length (numbers_bytes (chosen_points ms)) % 2) 0 (omega (arith, length_numbers (chosen_points ms))))
      (and_from _ _ (le-leb (length ms) 4096 few)
      (all_from (point_stands (numbers_bytes (chosen_points ms)) (length ms)) _ (λ i l. point_stands_lem i (omega arith))))

  pub points_back : tabulated (λ i. get16 (numbers_bytes (chosen_points ms)) (2 * i)) (length (numbers_bytes (chosen_points ms)) / 2) ≡ chosen_points ms
  points_back = tabulated_back _ (chosen_points ms) _ 0 (omega (arith, length_numbers (chosen_points ms))) point_at
