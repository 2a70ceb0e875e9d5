use Rattle.std.proofs.Common.{sym}
use Rattle.std.proofs.lemmas.List.{take_more}
use Rattle.listings.proofs.Laying.{lays_then, lays_as}
use Rattle.listings.proofs.text.Lay.text.Goals as goal

pub loop-b-preserved : goal.loop-b-preserved
loop-b-preserved c =
    lays_as (sym (take_more c.as_bytes-b-items.result.now c.loop-b.b-index 0 c.loop-b-test.true)) (lays_then c.loop-b.invariant c.byte.ensures)
