use Rattle.std.proofs.Common.{◌≡◌, ◌+◌, ◌*◌, length}
use Rattle.sheets.specs.Bytes.{stored, numbers_bytes}
use Rattle.sheets.specs.Sheets.{chosen_below}
use Rattle.sheets.proofs.parts.store_points.Given as goal

-- the points so far are stored, and the next goes behind them
abbrev pub invariant-loop-p : goal.invariant-loop-p
invariant-loop-p l =
    (l.sheet ≡ stored l.initial.sheet l.at (numbers_bytes (chosen_below l.marks l.p)))
    × (l.next ≡ l.at + 2 * length (chosen_below l.marks l.p))
