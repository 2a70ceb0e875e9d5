-- A sheet of one ledger, written in one call.
use Rattle.std.specs.Prelude.{ℕ, List, [], ◌∷◌, take, Ok, Err, Result}
use Rattle.ranges.specs.declared.number.RangeNumber.{RangeNumber}
use Rattle.ranges.specs.declared.refusal.Refusal.{Refusal}
use Rattle.guesses.specs.declared.book.GuessLine.{GuessLine}
use Rattle.sheets.specs.declared.writer.SheetWriter.{SheetWriter}
use Rattle.sheets.specs.Writing.{begun, add_answer, added_writer, added_sheet, close_answer, closed_sheet, torn_sheet}
use Rattle.sheets.specs.RoundTrip.{ReadsBack}

-- a refused close without its writer
abbrev pub spent : Result ℕ (SheetWriter × Refusal) → Result ℕ Refusal
spent (Ok n) = Ok n
spent (Err e) = Err e.1

abbrev pub closed_or_torn : Result ℕ (SheetWriter × Refusal) → SheetWriter → List ℕ → List GuessLine → ℕ → List ℕ → List ℕ
closed_or_torn (Ok n) w s ls k ms = closed_sheet (Ok n) w s ls k ms
closed_or_torn (Err e) w s ls k ms = torn_sheet e.0 s

abbrev pub after_add : Result Unit Refusal → SheetWriter → List ℕ → List GuessLine → ℕ → List ℕ → Result ℕ Refusal
after_add (Ok u) w s ls k ms = spent (close_answer w s ls k ms)
after_add (Err e) w s ls k ms = Err e

abbrev pub sheet_after_add : Result Unit Refusal → SheetWriter → List ℕ → List GuessLine → ℕ → List ℕ → List ℕ
sheet_after_add (Ok u) w s ls k ms = closed_or_torn (close_answer w s ls k ms) w s ls k ms
sheet_after_add (Err e) w s ls k ms = torn_sheet w s

abbrev pub single_answer : List ℕ → ℕ → List RangeNumber → List GuessLine → List ℕ → Result ℕ Refusal
single_answer s k ranges ls ms =
    let r = add_answer begun s k ranges in
    after_add r (added_writer r begun k ranges) (added_sheet r begun s k ranges) ls k ms

abbrev pub single_sheet : List ℕ → ℕ → List RangeNumber → List GuessLine → List ℕ → List ℕ
single_sheet s k ranges ls ms =
    let r = add_answer begun s k ranges in
    sheet_after_add r (added_writer r begun k ranges) (added_sheet r begun s k ranges) ls k ms

-- what an accepted call wrote is read back
abbrev pub SingleReadsBack : Result ℕ Refusal → ℕ → List RangeNumber → List GuessLine → List ℕ → List ℕ → Type 0
SingleReadsBack (Ok n) k ranges ls ms after = ReadsBack (record { guess = k; lines = ranges } ∷ []) ls k ms (take n after)
SingleReadsBack (Err e) k ranges ls ms after = Unit {0}
