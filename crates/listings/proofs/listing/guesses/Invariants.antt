use Rattle.std.proofs.Common.{◌+◌, ◌*◌, ◌≤◌, take}
use Rattle.listings.specs.Text.{Lays}
use Rattle.listings.specs.Listings.{guesses_text}
use Rattle.listings.proofs.listing.guesses.Given as goal

abbrev pub invariant-loop-line : goal.invariant-loop-line
invariant-loop-line l =
    Lays l.initial.lay (guesses_text (take l.line-index l.line-items)) l.lay
    × (l.lay.at ≤ l.initial.lay.at + 38 * l.line-index)
