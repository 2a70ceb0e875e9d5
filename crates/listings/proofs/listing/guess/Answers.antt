use Rattle.listings.proofs.Laying.{lays_then}
use Rattle.listings.proofs.listing.guess.Goals as goal

pub returns-clause-laid : goal.returns-clause-laid
returns-clause-laid c =
    lays_then c.text.ensures (lays_then c.number.ensures.laid (lays_then c.text-2.ensures (lays_then c.number-2.ensures.laid (lays_then c.text-3.ensures c.verdict.ensures.laid))))
