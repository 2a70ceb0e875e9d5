-- A closed sheet is whole, and read back.
use Rattle.std.proofs.Common.{◌≡◌, ℕ, ◌+◌, ◌*◌, ◌≤◌, List, ◌++◌, length, take, sym, refl, ap, ◌∙◌, subst, arith, length-append}
use Rattle.std.proofs.lemmas.List.{take_at}
use Rattle.guesses.specs.declared.book.GuessLine.{GuessLine}
use Rattle.sheets.specs.declared.writer.SheetWriter.{SheetWriter}
use Rattle.sheets.specs.declared.trailer.Trailer.{Trailer}
use Rattle.sheets.specs.Bytes.{put, stored, numbers_bytes}
use Rattle.sheets.specs.Trailers.{trailer_bytes}
use Rattle.sheets.specs.Sheets.{Section, book_bytes, BookFits, chosen_points, ledger_bytes, last_guess, sheet_bytes}
use Rattle.sheets.specs.Writing.{AllSound, writer_after, end_bytes, end_length, end_trailer}
use Rattle.sheets.specs.Reading.{told, read_sheet}
use Rattle.sheets.specs.RoundTrip.{ReadsBack, AllReadBack}
use Rattle.sheets.proofs.Stores.{stored_append, stored_put}
use Rattle.sheets.proofs.Written.{put_behind}
use Rattle.sheets.proofs.ReadBack.{length_book, length_numbers}
use Rattle.sheets.proofs.Whole.{length_sheet, sheet_back}

-- the book, the points and the trailer, one behind the other
pub end_stored : (s : List ℕ) (at : ℕ) (ls : List GuessLine) (xs T : List ℕ) → stored (stored (stored s at (book_bytes ls)) (at + 8 * length ls) (numbers_bytes xs)) (at + 8 * length ls + 2 * length xs) T ≡ stored s at (book_bytes ls ++ (numbers_bytes xs ++ T))
end_stored s at ls xs T =
    sym (stored_append (book_bytes ls) (numbers_bytes xs ++ T) s at
    ∙ ap (λ n. stored (stored s at (book_bytes ls)) (at + n) (numbers_bytes xs ++ T)) (length_book ls)
    ∙ stored_append (numbers_bytes xs) T (stored s at (book_bytes ls)) (at + 8 * length ls)
    ∙ ap (λ n. stored (stored (stored s at (book_bytes ls)) (at + 8 * length ls) (numbers_bytes xs)) (at + 8 * length ls + n) T) (length_numbers xs))

module _ (ls : List GuessLine) (ms s : List ℕ) (fit : BookFits ls (length ls)) (lines : length ls ≤ 24) (marks : length ms ≤ 4096) where
  sections_back : (ss : List Section) → AllSound ss → take (length (ledger_bytes ss)) s ≡ ledger_bytes ss → length (ledger_bytes ss) + end_length ls ms ≤ 2147483648 → ReadsBack ss ls (last_guess ss) ms (take (length (ledger_bytes ss) + end_length ls ms) (put s (length (ledger_bytes ss)) (end_bytes (writer_after ss) ls (last_guess ss) ms)))
  sections_back ss sound front short =
      let long = length_sheet ss ls ms sound fit lines marks in
      let whole =
      ap (take (length (ledger_bytes ss) + end_length ls ms)) (put_behind s (ledger_bytes ss) (end_bytes (writer_after ss) ls (last_guess ss) ms) (length (ledger_bytes ss)) refl front)
      ∙ take_at (sheet_bytes ss ls (last_guess ss) ms) _ (length (ledger_bytes ss) + end_length ls ms) (omega arith) in
      record {
        whole = whole;
        back = ap (λ z. told (read_sheet z)) whole ∙ sheet_back ss ls ms sound fit lines marks (omega arith);
      }

  pub all_back : (w : SheetWriter) (floor : ℕ) → floor ≡ w.guess → w.len + end_length ls ms ≤ 2147483648 → AllReadBack (w.len + end_length ls ms) w s ls floor ms (put s w.len (end_bytes w ls floor ms))
  all_back w floor e short ss h =
      let f : last_guess ss ≡ floor = sym (e ∙ ap (λ v. v.guess) h.writer) in
      let n : length (ledger_bytes ss) + end_length ls ms ≤ 2147483648 = omega (arith, ap (λ v. v.len) h.writer) in
      subst (λ (k : ℕ). ReadsBack ss ls k ms (take (w.len + end_length ls ms) (put s w.len (end_bytes w ls k ms)))) f
      (subst (λ (v : SheetWriter). ReadsBack ss ls (last_guess ss) ms (take (v.len + end_length ls ms) (put s v.len (end_bytes v ls (last_guess ss) ms)))) (sym h.writer)
      (sections_back ss h.sound h.bytes n))

pub end_long : (w : SheetWriter) (ls : List GuessLine) (floor : ℕ) (ms : List ℕ) → length (end_bytes w ls floor ms) ≡ end_length ls ms
end_long w ls floor ms =
    let T = trailer_bytes (end_trailer w ls floor ms) in
    omega (arith, length-append (book_bytes ls) (numbers_bytes (chosen_points ms) ++ T), length-append (numbers_bytes (chosen_points ms)) T, length_book ls, length_numbers (chosen_points ms))

-- the three stores, at the places and with the trailer that the writer computes
pub end_laid : (w : SheetWriter) (ls : List GuessLine) (floor : ℕ) (ms s s₁ s₂ s₃ : List ℕ) (t : Trailer) (i j : ℕ) → s₁ ≡ stored s w.len (book_bytes ls) → s₂ ≡ stored s₁ i (numbers_bytes (chosen_points ms)) → s₃ ≡ stored s₂ j (trailer_bytes t) → i ≡ w.len + 8 * length ls → j ≡ w.len + 8 * length ls + 2 * length (chosen_points ms) → t ≡ end_trailer w ls floor ms → w.len + end_length ls ms ≤ length s → s₃ ≡ put s w.len (end_bytes w ls floor ms)
end_laid w ls floor ms s s₁ s₂ s₃ t i j book points trailer at_i at_j is room =
    trailer
    ∙ ap (λ z. stored z j (trailer_bytes t)) (points ∙ ap (λ z. stored z i (numbers_bytes (chosen_points ms))) book ∙ ap (λ k. stored (stored s w.len (book_bytes ls)) k (numbers_bytes (chosen_points ms))) at_i)
    ∙ ap (λ k. stored (stored (stored s w.len (book_bytes ls)) (w.len + 8 * length ls) (numbers_bytes (chosen_points ms))) k (trailer_bytes t)) at_j
    ∙ end_stored s w.len ls (chosen_points ms) (trailer_bytes t)
    ∙ ap (λ u. stored s w.len (book_bytes ls ++ (numbers_bytes (chosen_points ms) ++ trailer_bytes u))) is
    ∙ stored_put (end_bytes w ls floor ms) s w.len (omega (arith, end_long w ls floor ms))
