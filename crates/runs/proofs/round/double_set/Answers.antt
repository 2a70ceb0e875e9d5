use Rattle.std.proofs.Common.{◌∙◌}
use Rattle.ledgers.proofs.Replays.{points_uncapped}
use Rattle.runs.proofs.round.double_set.Goals as goal

pub returns : goal.returns
returns g c =
    c.double_points.ensures
    ∙ points_uncapped c.points.result (g.P.PointSet.members c.args.set.now) c.args.weights.now (cc) c.requires.small
