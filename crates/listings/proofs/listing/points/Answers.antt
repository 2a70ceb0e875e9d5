use Rattle.std.proofs.Common.{rules, true, false, sym, arith}
use Rattle.listings.proofs.Laying.{lays_then, lays_as, lays_none, point_more}
use Rattle.listings.proofs.listing.points.Goals as goal
use Rattle.listings.proofs.listing.points.Goals.{then-marked, else-marked}

pub loop-p-preserved : goal.loop-p-preserved
loop-p-preserved c =
    let ms = c.args.marks.now in
    let p = c.loop-p.p in
    elim c.if-marked.branch [
      | then-marked w ↦ rw w.lay-is (lays_as (sym (point_more ms p true (search rules))) (lays_then c.loop-p.invariant.0 w.at_line.ensures.laid), omega (arith, w.at_line.ensures.short, c.loop-p.invariant.1))
      | else-marked w ↦ rw w.lay-is (lays_as (sym (point_more ms p false (search rules))) (lays_then c.loop-p.invariant.0 (lays_none _)), omega (arith, c.loop-p.invariant.1))
    ]
