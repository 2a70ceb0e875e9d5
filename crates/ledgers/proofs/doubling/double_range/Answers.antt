use Rattle.std.proofs.Common.{ap, ◌∙◌}
use Rattle.ledgers.specs.Doublings.{capped_points}
use Rattle.ledgers.proofs.Places.{held_points}
use Rattle.ledgers.proofs.doubling.double_range.Goals as goal

pub returns : goal.returns
returns g c =
    let S = g.S.Space.meaning c.args.s.now in
    c.double_points.ensures
    ∙ ap (λ n. capped_points n (S.holds c.args.j.0) c.args.weights.now) c.points.ensures
    ∙ held_points S (g.met.S.Space.within c.args.s.now) c.args.j.0 c.args.weights.now
