-- A whole sheet: every part stands where the trailer says, and is read back.
use Rattle.std.proofs.Common.{◌≡◌, ℕ, ◌+◌, ◌-◌, ◌*◌, ◌/◌, ◌<◌, ◌≤◌, true, false, cond, eqb, List, [], ◌∷◌, ◌++◌, length, get_or, Ok, Err, sym, refl, ap, ◌∙◌, arith, length-append}
use Rattle.std.proofs.lemmas.List.{append_assoc}
use Rattle.std.proofs.lemmas.Bool.{and_from, le-leb, eq-eqb, ne_eqb, not_from_false, cond-false}
use Rattle.ranges.specs.declared.number.RangeNumber.{RangeNumber}
use Rattle.ranges.specs.declared.refusal.Refusal.TheVariants.{BadSheet}
use Rattle.ranges.specs.Weights.{tabulated}
use Rattle.guesses.specs.declared.book.GuessLine.{GuessLine}
use Rattle.sheets.specs.declared.trailer.Trailer.{Trailer}
use Rattle.sheets.specs.Bytes.{Fit, bytes16, get16, numbers_bytes}
use Rattle.sheets.specs.Trailers.{trailer_bytes, trailer_at, no_ledger}
use Rattle.sheets.specs.Sheets.{Section, range_zero, lines_bytes, section_bytes, LinesFit, book_bytes, BookFits, chosen_points, ledger_bytes, last_place, last_guess, last_lines, sheet_trailer, sheet_bytes}
use Rattle.sheets.specs.Writing.{AllSound}
use Rattle.sheets.specs.Reading.{part, trailer_of, book_part, points_part, ledger_part, lines_place, in_order, places_stand, book_stands, points_stand, bare_stands, ledger_stands, ledgers_stand, accepted, Content, content, read_sheet, range_in, told}
use Rattle.sheets.specs.RoundTrip.{tells_of}
use Rattle.sheets.proofs.Numbers.{back16, behind16, joined16, tabulated_back}
use Rattle.sheets.proofs.Stores.{length_joined}
use Rattle.sheets.proofs.Written.{length_section}
use Rattle.sheets.proofs.ReadBack.{TrailerFits, trailer_back, part_back, length_book, length_numbers, guesses_back, book_stands_lem, points_stand_lem, points_back}

-- the lines of a ledger
length_lines : (ls : List RangeNumber) → length (lines_bytes ls) ≡ 2 * length ls
length_lines ls = length_joined (λ (r : RangeNumber). bytes16 r.0) 2 (λ r. refl) ls

range_at : (ls : List RangeNumber) (i : ℕ) → i < length ls → Fit (get_or ls i range_zero).0 → range_in (lines_bytes ls) i ≡ get_or ls i range_zero
range_at ls i h fit =
    let z : 2 * i ≡ 2 * i + 0 = omega arith in
    let at = ap (get16 (lines_bytes ls)) z ∙ joined16 (λ (r : RangeNumber). bytes16 r.0) 2 (λ r. refl) range_zero ls i 0 h (omega arith) ∙ back16 (get_or ls i range_zero).0 fit in
    let all : ◌≡◌ {A = RangeNumber} (range_in (lines_bytes ls) i) (record { 0 = (get_or ls i range_zero).0 }) = cc in
    all

pub ranges_back : (ls : List RangeNumber) → LinesFit ls (length ls) → tabulated (range_in (lines_bytes ls)) (length (lines_bytes ls) / 2) ≡ ls
ranges_back ls fit =
    tabulated_back (range_in (lines_bytes ls)) ls _ range_zero (omega (arith, length_lines ls)) (λ i l. range_at ls i l (fit i l))

pub lines_fit : (ss : List Section) → AllSound ss → LinesFit (last_lines ss) (length (last_lines ss))
lines_fit [] h = λ i l. absurd (omega arith)
lines_fit (s ∷ earlier) h = h.0.fit

-- the last section, if there is one
module _ (R : List ℕ) (points n : ℕ) where
  abbrev trailer_with : List Section → Trailer
  trailer_with ss = record { book = length (ledger_bytes ss); points = points; ledger = last_place ss; n = n; floor = last_guess ss }

  somewhere : (E : List ℕ) → length E ≤ 2147483648 → eqb (length E) no_ledger ≡ false
  somewhere E short = ne_eqb (length E) no_ledger (λ e. omega arith)

  pub ledgers_stand_lem : (ss : List Section) → AllSound ss → length (ledger_bytes ss) ≤ 2147483648 → ledgers_stand (ledger_bytes ss ++ R) (trailer_with ss) ≡ true
  ledgers_stand_lem [] sound short = refl
  ledgers_stand_lem (s ∷ e) sound short =
      let E = ledger_bytes e in
      let S = section_bytes s.guess s.lines in
      let long = length-append E S in
      let size = length_section s.guess s.lines in
      let whole = append_assoc E S R in
      let guess = ap (λ z. get16 z (length E)) whole ∙ behind16 E (S ++ R) (length E) 0 (omega arith) ∙ back16 s.guess (omega (arith, sound.0.most)) in
      let count = ap (λ z. get16 z (length E + 2)) whole ∙ behind16 E (S ++ R) (length E + 2) 2 refl ∙ back16 (length s.lines) (omega (arith, sound.0.few)) in
      let place = somewhere E (omega arith) in
      cond-false _ (bare_stands (trailer_with (s ∷ e))) (ledger_stands ((E ++ S) ++ R) (trailer_with (s ∷ e))) place
      ∙ and_from _ _ (eq-eqb _ s.guess guess)
      (and_from _ _ (not_from_false _ (ne_eqb s.guess 0 (λ z. omega (arith, sound.0.some))))
      (eq-eqb (length E + 4 + 2 * get16 ((E ++ S) ++ R) (length E + 2)) (length (E ++ S)) (omega (arith, count))))

  pub ledger_back : (ss : List Section) → length (ledger_bytes ss) ≤ 2147483648 → part (ledger_bytes ss ++ R) (lines_place (trailer_with ss)) (length (ledger_bytes ss)) ≡ lines_bytes (last_lines ss)
  ledger_back [] short = refl
  ledger_back (s ∷ e) short =
      let E = ledger_bytes e in
      let H = bytes16 s.guess ++ bytes16 (length s.lines) in
      let S = section_bytes s.guess s.lines in
      let long = length-append E S in
      let size = length_section s.guess s.lines in
      let place = ap (λ b. cond b 0 (length E + 4)) (somewhere E (omega arith)) in
      let front = length-append E H in
      let whole : (E ++ S) ++ R ≡ (E ++ H) ++ (lines_bytes s.lines ++ R) = append_assoc E S R ∙ sym (append_assoc E H (lines_bytes s.lines ++ R)) in
      ap (λ i. part ((E ++ S) ++ R) i (length (E ++ S))) place
      ∙ ap (λ z. part z (length E + 4) (length (E ++ S))) whole
      ∙ part_back (E ++ H) (lines_bytes s.lines) R (length E + 4) (length (E ++ S)) (omega arith) (omega arith)

module _ (ss : List Section) (ls : List GuessLine) (ms : List ℕ) (sound : AllSound ss) (fit : BookFits ls (length ls)) (lines : length ls ≤ 24) (marks : length ms ≤ 4096) where
  abbrev L : List ℕ
  L = ledger_bytes ss

  abbrev B : List ℕ
  B = book_bytes ls

  abbrev P : List ℕ
  P = numbers_bytes (chosen_points ms)

  abbrev t : Trailer
  t = sheet_trailer ss ls (last_guess ss) ms

  abbrev S : List ℕ
  S = sheet_bytes ss ls (last_guess ss) ms

  pub length_sheet : length S ≡ length L + 8 * length ls + 2 * length (chosen_points ms) + 16
  length_sheet =
      omega (arith, length-append L (B ++ (P ++ trailer_bytes t)), length-append B (P ++ trailer_bytes t), length-append P (trailer_bytes t), length_book ls, length_numbers (chosen_points ms))

  module _ (short : length S ≤ 2147483648) where
    last_place_lem : (s : List Section) → length (ledger_bytes s) ≤ 2147483648 → last_place s < 4294967296
    last_place_lem [] h = omega arith
    last_place_lem (s ∷ e) h = omega (arith, length-append (ledger_bytes e) (section_bytes s.guess s.lines))

    last_guess_lem : (s : List Section) → AllSound s → Fit (last_guess s)
    last_guess_lem [] h = omega arith
    last_guess_lem (s ∷ e) h = omega (arith, h.0.most)

    fits : TrailerFits t
    fits =
        record {
          book = omega (arith, length_sheet);
          points = omega (arith, length_sheet);
          ledger = last_place_lem ss (omega (arith, length_sheet));
          n = omega arith;
          floor = last_guess_lem ss sound;
        }

    trailer_is : trailer_of S ≡ t
    trailer_is =
        let whole : S ≡ (L ++ (B ++ P)) ++ trailer_bytes t = sym (append_assoc L (B ++ P) (trailer_bytes t) ∙ ap (λ z. L ++ z) (append_assoc B P (trailer_bytes t))) in
        let at : length S - 16 ≡ length (L ++ (B ++ P)) = omega (arith, ap length whole, length-append (L ++ (B ++ P)) (trailer_bytes t)) in
        ap (λ z. trailer_at z (length S - 16)) whole ∙ trailer_back (L ++ (B ++ P)) t (length S - 16) at fits

    book_is : book_part S ≡ B
    book_is =
        ap (λ u. part S u.book u.points) trailer_is
        ∙ part_back L B (P ++ trailer_bytes t) (length L) (length L + 8 * length ls) refl (omega (arith, length_book ls))

    points_are : points_part S ≡ P
    points_are =
        let whole : S ≡ (L ++ B) ++ (P ++ trailer_bytes t) = sym (append_assoc L B (P ++ trailer_bytes t)) in
        ap (λ u. part S u.points (length S - 16)) trailer_is
        ∙ ap (λ z. part z (length L + 8 * length ls) (length S - 16)) whole
        ∙ part_back (L ++ B) P (trailer_bytes t) (length L + 8 * length ls) (length S - 16) (omega (arith, length-append L B, length_book ls)) (omega (arith, length_sheet, length_numbers (chosen_points ms)))

    ledger_is : ledger_part S ≡ lines_bytes (last_lines ss)
    ledger_is =
        ap (λ u. part S (lines_place u) u.book) trailer_is
        ∙ ledger_back (B ++ (P ++ trailer_bytes t)) t.points (length ms) ss (omega (arith, length_sheet))

    places_stand_lem : places_stand S ≡ true
    places_stand_lem =
        and_from _ _ (le-leb 16 (length S) (omega (arith, length_sheet)))
        (ap (λ u. in_order u (length S - 16)) trailer_is
        ∙ and_from _ _ (le-leb t.book t.points (omega arith)) (le-leb t.points (length S - 16) (omega (arith, length_sheet))))

    is_accepted : accepted S ≡ true
    is_accepted =
        and_from _ _ places_stand_lem
        (and_from _ _ (ap book_stands book_is ∙ book_stands_lem ls lines)
        (and_from _ _ (ap (λ p. points_stand p (trailer_of S).n) points_are ∙ ap (λ (u : Trailer). points_stand P u.n) trailer_is ∙ points_stand_lem ms marks)
        (ap (ledgers_stand S) trailer_is ∙ ledgers_stand_lem (B ++ (P ++ trailer_bytes t)) t.points (length ms) ss sound (omega (arith, length_sheet)))))

    pub sheet_back : told (read_sheet S) ≡ Ok (tells_of ss ls (last_guess ss) ms)
    sheet_back =
        let parts : ◌≡◌ {A = Content} (content S) (record { book = B; points = P; ledger = lines_bytes (last_lines ss); n = t.n; floor = t.floor }) =
        (let a = book_is in let b = points_are in let c = ledger_is in let d = trailer_is in cc) in
        let read : read_sheet S ≡ Ok (record { book = B; points = P; ledger = lines_bytes (last_lines ss); n = t.n; floor = t.floor }) =
        ap (λ b. cond b (Ok (content S)) (Err BadSheet)) is_accepted ∙ ap (λ p. Ok p) parts in
        let a = guesses_back ls fit in
        let b = points_back ms marks in
        let c = ranges_back (last_lines ss) (lines_fit ss sound) in
        ap told read ∙ (cc)
