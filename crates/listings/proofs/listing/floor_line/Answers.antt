use Rattle.listings.proofs.Laying.{lays_then}
use Rattle.listings.proofs.listing.floor_line.Goals as goal

pub returns-clause-laid : goal.returns-clause-laid
returns-clause-laid c = lays_then c.text.ensures (lays_then c.number.ensures.laid c.end_line.ensures)
