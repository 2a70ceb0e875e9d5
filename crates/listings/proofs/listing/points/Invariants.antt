use Rattle.std.proofs.Common.{◌+◌, ◌*◌, ◌≤◌}
use Rattle.sheets.specs.Sheets.{chosen_below}
use Rattle.listings.specs.Text.{Lays}
use Rattle.listings.specs.Listings.{points_text}
use Rattle.listings.proofs.listing.points.Given as goal

abbrev pub invariant-loop-p : goal.invariant-loop-p
invariant-loop-p l =
    Lays l.initial.lay (points_text (chosen_below l.marks l.p)) l.lay
    × (l.lay.at ≤ l.initial.lay.at + 9 * l.p)
