use Rattle.std.proofs.Common.{sym, arith}
use Rattle.listings.proofs.Laying.{lays_then, lays_as, guesses_more}
use Rattle.listings.proofs.listing.guesses.Goals as goal

pub loop-line-preserved : goal.loop-line-preserved
loop-line-preserved c = (
  lays_as (sym (guesses_more c.lines-line-items.result.now c.loop-line.line-index c.loop-line-test.true)) (lays_then c.loop-line.invariant.0 (lays_then c.guess.ensures.laid c.end_line.ensures)),
  omega (arith, c.guess.ensures.short, c.end_line.ensures.laid.place, c.loop-line.invariant.1),
)
