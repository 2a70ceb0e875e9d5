use Rattle.std.proofs.Common.{◌∙◌, arith}
use Rattle.ranges.proofs.Totals.{range_uncapped, range_le_total}
use Rattle.runs.proofs.round.missed_weight.Goals as goal

pub returns : goal.returns
returns g c =
    let is = c.range_weight.ensures ∙ range_uncapped (g.S.Space.meaning c.args.s.now) c.args.weights.now c.args.j.0 c.requires.long c.requires.small in
    record { weight = is; small = omega (arith, is, range_le_total (g.S.Space.meaning c.args.s.now) c.args.weights.now c.args.j.0 c.requires.long) }
