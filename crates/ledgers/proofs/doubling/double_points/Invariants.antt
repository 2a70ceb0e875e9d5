use Rattle.std.proofs.Common.{◌≡◌}
use Rattle.ledgers.specs.Doublings.{capped_point_at, capped_points}
use Rattle.ledgers.proofs.Places.{Done}
use Rattle.ledgers.proofs.doubling.double_points.Given as goal

-- the points below p are done, the others are as they were; at n all are done
abbrev pub invariant-loop-p : goal.invariant-loop-p
invariant-loop-p g l =
    Done (capped_point_at l.n (g.P.PointSet.members l.set) l.initial.weights) l.initial.weights l.p l.weights
    × (l.p ≡ l.n → l.weights ≡ capped_points l.n (g.P.PointSet.members l.set) l.initial.weights)
