-- The lines of a book and its places.
use Rattle.std.proofs.Common.{◌≡◌, ℕ, zero, suc, ◌+◌, ◌-◌, ◌<◌, ltb, List, [], ◌∷◌, ◌++◌, length, take, set, Some, sym, refl, ap, ◌∙◌, arith}
use Rattle.std.proofs.lemmas.Bool.{cond-true, cond_both, lt-ltb}
use Rattle.std.proofs.lemmas.List.{length-take, length-set, length_push, get_or-take, get_or_push, get_or-set_same, take_more_set}
use Rattle.std.proofs.lemmas.Bool.Decides.{nat_tests}
use Rattle.guesses.specs.declared.book.GuessLine.{GuessLine}
use Rattle.guesses.specs.declared.book.Book.{Book}
use Rattle.guesses.specs.Books.{no_line, book_lines, book_length, book_added, book_rewritten, line_at, Placed}

-- a front keeps what is put into the whole
take_put : (n : ℕ) (ls : List GuessLine) (i : ℕ) (l : GuessLine) → take n (set ls i l) ≡ set (take n ls) i l
take_put zero [] i l = refl
take_put zero (x ∷ ls) zero l = refl
take_put zero (x ∷ ls) (suc i) l = refl
take_put (suc n) [] i l = refl
take_put (suc n) (x ∷ ls) zero l = refl
take_put (suc n) (x ∷ ls) (suc i) l = ap (λ rest. x ∷ rest) (take_put n ls i l)

-- a book of 24 places has its lines in the first of them
pub placed : (b : Book) → length b.lines ≡ 24 → Placed b
placed b whole =
    record {
      long = let e = length-take b.used b.lines in grind (arith, nat_tests);
      read = λ i within. let h : i < b.used = grind (arith, nat_tests) in sym (get_or-take b.used b.lines i no_line h);
      next = λ l room. take_more_set b.lines b.used l (omega arith);
      put = λ i l. take_put b.used b.lines i l;
    }

module _ (b : Book) (l : GuessLine) (whole : length b.lines ≡ 24) where
  -- a line more
  room_used : length (book_lines b) < 24 → b.used < 24
  room_used room = let long = (placed b whole).long in grind (arith, nat_tests)

  pub added_lines : length (book_lines b) < 24 → book_lines (book_added b l) ≡ book_lines b ++ l ∷ []
  added_lines room =
      ap book_lines (cond-true (ltb b.used 24) _ _ (lt-ltb b.used 24 (room_used room))) ∙ (placed b whole).next l (room_used room)

  pub added_whole : length (book_added b l).lines ≡ 24
  added_whole = cond_both (ltb b.used 24) (record { lines = set b.lines b.used l; used = b.used + 1 }) b (λ (x : Book). length x.lines ≡ 24) (λ _. length-set b.lines b.used l ∙ whole) (λ _. whole)

  -- the last line anew
  some_used : 0 < length (book_lines b) → 0 < b.used
  some_used some = let long = (placed b whole).long in grind (arith, nat_tests)

  pub rewritten_lines : 0 < length (book_lines b) → book_lines (book_rewritten b l) ≡ set (book_lines b) (length (book_lines b) - 1) l
  rewritten_lines some =
      ap book_lines (cond-true (ltb 0 b.used) _ _ (lt-ltb 0 b.used (some_used some)))
      ∙ (placed b whole).put (book_length b - 1) l
      ∙ ap (λ n. set (book_lines b) (n - 1) l) (sym (placed b whole).long)

  pub rewritten_whole : length (book_rewritten b l).lines ≡ 24
  rewritten_whole = cond_both (ltb 0 b.used) (record { lines = set b.lines (book_length b - 1) l; used = b.used }) b (λ (x : Book). length x.lines ≡ 24) (λ _. length-set b.lines (book_length b - 1) l ∙ whole) (λ _. whole)

-- the last of some lines
pub last_added : (ls : List GuessLine) (l : GuessLine) → line_at (ls ++ l ∷ []) (length (ls ++ l ∷ []) - 1) ≡ Some l
last_added ls l =
    let long = length_push ls l in
    let at : length (ls ++ l ∷ []) - 1 ≡ length ls = omega arith in
    ap (line_at (ls ++ l ∷ [])) at
    ∙ cond-true (ltb (length ls) (length (ls ++ l ∷ []))) _ _ (lt-ltb _ _ (omega arith))
    ∙ ap Some (get_or_push ls l no_line (length ls) refl)

pub last_set : (ls : List GuessLine) (l : GuessLine) → 0 < length ls → line_at (set ls (length ls - 1) l) (length (set ls (length ls - 1) l) - 1) ≡ Some l
last_set ls l some =
    let long = length-set ls (length ls - 1) l in
    ap (λ n. line_at (set ls (length ls - 1) l) (n - 1)) long
    ∙ cond-true (ltb (length ls - 1) (length (set ls (length ls - 1) l))) _ _ (lt-ltb _ _ (omega arith))
    ∙ ap Some (get_or-set_same ls (length ls - 1) l no_line (omega arith))
