use Rattle.std.proofs.Common.{◌+◌, refl, arith}
use Rattle.ledgers.specs.Doublings.{capped_point_at}
use Rattle.ledgers.proofs.Places.{Done, none_done, member_next, member_long, all_done}
use Rattle.ledgers.proofs.doubling.double_points.Goals as goal

pub loop-p-init : goal.loop-p-init
loop-p-init g c =
    let none : Done (capped_point_at c.args.n (g.P.PointSet.members c.args.set.now) c.args.weights.now) c.args.weights.now 0 c.args.weights.now = none_done _ _ in
    (none, all_done c.args.n 0 (g.P.PointSet.members c.args.set.now) c.args.weights.now c.args.weights.now refl none)

pub loop-p-preserved : goal.loop-p-preserved
loop-p-preserved g c =
    let more = member_next c.args.n (g.P.PointSet.members c.args.set.now) c.args.weights.now c.loop-p.weights c.loop-p.p (omega arith) c.loop-p.invariant.0 c.double_member.new.weights c.double_member.ensures in
    let long = member_long (g.P.PointSet.members c.args.set.now) c.args.weights.now c.loop-p.weights c.double_member.new.weights c.loop-p.p c.loop-p.auto.weights c.double_member.ensures in
    (more, all_done c.args.n (c.loop-p.p + 1) (g.P.PointSet.members c.args.set.now) c.args.weights.now c.double_member.new.weights long more)
