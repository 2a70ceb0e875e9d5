use Rattle.std.proofs.Common.{◌∙◌, arith}
use Rattle.ranges.proofs.Totals.{range_uncapped}
use Rattle.ranges.proofs.weight.Weights.of_range.Goals as goal

pub returns : goal.returns
returns g c =
    let w = c.args.self.now in
    c.range_weight.ensures ∙ range_uncapped (g.S.Space.meaning w.space.now) w.each.now c.args.j.0 w.long (omega (arith, w.added, w.small))
