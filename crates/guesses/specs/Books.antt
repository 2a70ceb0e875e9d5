-- The book of the guesses, and what each call does to it.
use Rattle.std.specs.Prelude.{◌≡◌, ℕ, ◌+◌, ◌-◌, ◌<◌, cond, List, [], ◌∷◌, ◌++◌, length, take, replicate, Some, None, Option, nat_lt, slice_index_or, slice_set}
use Rattle.guesses.specs.declared.book.Verdict.TheVariants.{Open}
use Rattle.guesses.specs.declared.book.GuessLine.{GuessLine}
use Rattle.guesses.specs.declared.book.Book.{Book}

-- what stands in a place that is not used
abbrev pub no_line : GuessLine
no_line = record { k = 0; doublings = 0; verdict = Open }

-- what a book means: its used lines, in order
abbrev pub book_lines : Book → List GuessLine
book_lines b = take b.used b.lines

abbrev pub empty_book : Book
empty_book = record { lines = replicate 24 no_line; used = 0 }

-- how many lines a book has: never more than it has places
abbrev pub book_length : Book → ℕ
book_length b = cond (nat_lt b.used 24) b.used 24

-- while there is room, a line goes to the first place that is not used
abbrev pub book_added : Book → GuessLine → Book
book_added b l = cond (nat_lt b.used 24) (record { lines = slice_set b.lines b.used l; used = b.used + 1 }) b

-- a line goes to the last used place, if there is one
abbrev pub book_rewritten : Book → GuessLine → Book
book_rewritten b l = cond (nat_lt 0 b.used) (record { lines = slice_set b.lines (book_length b - 1) l; used = b.used }) b

-- the line at a place, if there are so many lines
abbrev pub line_at : List GuessLine → ℕ → Option GuessLine
line_at ls i = cond (nat_lt i (length ls)) (Some (slice_index_or ls i no_line)) None

-- how the lines of a book stand to its places
pub record Placed (b : Book) : Type 0 where
  pub long : length (book_lines b) ≡ book_length b
  pub read : (i : ℕ) → i < book_length b → slice_index_or b.lines i no_line ≡ slice_index_or (book_lines b) i no_line
  pub next : (l : GuessLine) → b.used < 24 → take (b.used + 1) (slice_set b.lines b.used l) ≡ book_lines b ++ l ∷ []
  pub put : (i : ℕ) (l : GuessLine) → take b.used (slice_set b.lines i l) ≡ slice_set (book_lines b) i l
