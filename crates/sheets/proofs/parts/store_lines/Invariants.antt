use Rattle.std.proofs.Common.{◌≡◌, ◌+◌, ◌*◌, drop}
use Rattle.sheets.specs.Bytes.{stored}
use Rattle.sheets.specs.Sheets.{lines_bytes, LinesFit}
use Rattle.sheets.proofs.parts.store_lines.Given as goal

-- what is left to store gives the whole
abbrev pub invariant-loop-i : goal.invariant-loop-i
invariant-loop-i l =
    (stored l.sheet (l.at + 2 * l.i) (lines_bytes (drop l.i l.lines)) ≡ stored l.initial.sheet l.at (lines_bytes l.lines))
    × LinesFit l.lines l.i
