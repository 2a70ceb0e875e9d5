-- The sheet that one accepted call leaves.
use Rattle.std.proofs.Common.{◌≡◌, ℕ, List, Ok, ap, ◌∙◌}
use Rattle.ranges.specs.declared.number.RangeNumber.{RangeNumber}
use Rattle.guesses.specs.declared.book.GuessLine.{GuessLine}
use Rattle.sheets.specs.declared.writer.SheetWriter.{SheetWriter}
use Rattle.sheets.specs.Writing.{begun, add_answer, added_writer, added_sheet, close_answer, closed_sheet}
use Rattle.sheets.specs.Single.{sheet_after_add, closed_or_torn, single_sheet}

pub single_sheet_lem : (k : ℕ) (ranges : List RangeNumber) (ls : List GuessLine) (ms : List ℕ) (w w₁ : SheetWriter) (s s₁ s₂ : List ℕ) (n : ℕ) → w ≡ begun → Ok tt ≡ add_answer w s k ranges → w₁ ≡ added_writer (Ok tt) w k ranges → s₁ ≡ added_sheet (Ok tt) w s k ranges → Ok n ≡ close_answer w₁ s₁ ls k ms → s₂ ≡ closed_sheet (Ok n) w₁ s₁ ls k ms → s₂ ≡ single_sheet s k ranges ls ms
single_sheet_lem k ranges ls ms w w₁ s s₁ s₂ n begins adds writer bytes closes sheet =
    sheet
    ∙ ap (λ q. closed_or_torn q w₁ s₁ ls k ms) closes
    ∙ ap (λ v. closed_or_torn (close_answer v s₁ ls k ms) v s₁ ls k ms) writer
    ∙ ap (λ z. closed_or_torn (close_answer (added_writer (Ok tt) w k ranges) z ls k ms) (added_writer (Ok tt) w k ranges) z ls k ms) bytes
    ∙ ap (λ r. sheet_after_add r (added_writer r w k ranges) (added_sheet r w s k ranges) ls k ms) adds
    ∙ ap (λ v. sheet_after_add (add_answer v s k ranges) (added_writer (add_answer v s k ranges) v k ranges) (added_sheet (add_answer v s k ranges) v s k ranges) ls k ms) begins
