use Rattle.std.proofs.Common.{◌≡◌, ◌+◌, ◌*◌, drop}
use Rattle.sheets.specs.Bytes.{stored}
use Rattle.sheets.specs.Sheets.{book_bytes, BookFits}
use Rattle.sheets.proofs.parts.store_book.Given as goal

-- what is left to store gives the whole
abbrev pub invariant-loop-i : goal.invariant-loop-i
invariant-loop-i l =
    (stored l.sheet (l.at + 8 * l.i) (book_bytes (drop l.i l.line-items)) ≡ stored l.initial.sheet l.at (book_bytes l.line-items))
    × BookFits l.line-items l.i
