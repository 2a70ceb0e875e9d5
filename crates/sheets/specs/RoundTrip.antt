-- What is written is read back.
use Rattle.std.specs.Prelude.{◌≡◌, ℕ, List, length, take, Ok, Err, Result}
use Rattle.ranges.specs.declared.refusal.Refusal.{Refusal}
use Rattle.guesses.specs.declared.book.GuessLine.{GuessLine}
use Rattle.sheets.specs.declared.writer.SheetWriter.{SheetWriter}
use Rattle.sheets.specs.Sheets.{Section, chosen_points, last_lines, sheet_bytes}
use Rattle.sheets.specs.Reading.{Told, told, read_sheet}
use Rattle.sheets.specs.Writing.{Written}

-- what these sections, the latest first, this book, floor and marks tell
abbrev pub tells_of : List Section → List GuessLine → ℕ → List ℕ → Told
tells_of ss ls floor ms =
    record {
      guesses = ls;
      points = chosen_points ms;
      ledger = last_lines ss;
      n = length ms;
      floor = floor;
    }

-- these bytes are the whole sheet, and the reader accepts them and reads back what was written
pub record ReadsBack (ss : List Section) (ls : List GuessLine) (floor : ℕ) (ms : List ℕ) (bytes : List ℕ) : Type 0 where
  pub whole : bytes ≡ sheet_bytes ss ls floor ms
  pub back : told (read_sheet bytes) ≡ Ok (tells_of ss ls floor ms)

-- whatever sections were written into this buffer by the writer's calls alone, its front up to n is then their sheet
abbrev pub AllReadBack : ℕ → SheetWriter → List ℕ → List GuessLine → ℕ → List ℕ → List ℕ → Type 0
AllReadBack n w before ls floor ms after =
    (ss : List Section) → Written w before ss → ReadsBack ss ls floor ms (take n after)

-- so it is after an accepted close
abbrev pub ClosedReadsBack : Result ℕ (SheetWriter × Refusal) → SheetWriter → List ℕ → List GuessLine → ℕ → List ℕ → List ℕ → Type 0
ClosedReadsBack (Ok n) w before ls floor ms after = AllReadBack n w before ls floor ms after
ClosedReadsBack (Err e) w before ls floor ms after = Unit {0}
