use Rattle.std.proofs.Common.{cond, ap, ◌∙◌, arith}
use Rattle.greedy.specs.Flags.{less_held, one_less}
use Rattle.greedy.proofs.Overs.{over_next, over_step, over_done}
use Rattle.greedy.proofs.greedy.lower_gains.Goals as goal

pub loop-p-preserved : goal.loop-p-preserved
loop-p-preserved g c =
    let S = g.S.Space.meaning c.args.s.now in
    let f = less_held S c.args.j.0 c.args.marks.now in
    let next = over_next f c.args.marks.now c.loop-p.marks c.loop-p.p c.loop-p.invariant (omega arith) in
    over_step f c.args.marks.now _ _ _ c.loop-p.invariant (omega arith)
    (c.lower_gain.ensures ∙ ap (λ x. cond (S.holds c.args.j.0 c.loop-p.p) (one_less x) x) next)

pub returns : goal.returns
returns g c =
    over_done (less_held (g.S.Space.meaning c.args.s.now) c.args.j.0 c.args.marks.now) c.args.marks.now _ _ _ c.loop-p.invariant (omega arith) (omega arith)
