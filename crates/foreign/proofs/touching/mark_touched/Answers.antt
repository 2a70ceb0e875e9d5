use Rattle.std.proofs.Common.{◌+◌, cond, ap, ◌∙◌, arith}
use Rattle.ranges.proofs.Marks.{byte_bit}
use Rattle.ranges.proofs.Sums.{count_le, sum_more}
use Rattle.foreign.specs.Touched.{touched}
use Rattle.foreign.specs.TouchedNet.{mark_more, marks_done}
use Rattle.foreign.proofs.touching.mark_touched.Goals as goal

pub overflow_add-count : goal.overflow_add-count
overflow_add-count g c =
    let w = c.args.weights.now in
    let t = touched (g.S.Space.meaning w.space.now) c.args.k w.each.now in
    let one = c.from-count.ensures ∙ byte_bit c.is_touched-touched.result ∙ ap (λ b. cond b 1 0) c.is_touched-touched.ensures in
    omega (arith, (g.met.S.Space.within w.space.now).few_points, c.requires, c.loop-p.invariant.0, one, sum_more (λ p. cond (t p) 1 0) c.loop-p.p, count_le t (c.loop-p.p + 1))

pub loop-p-preserved : goal.loop-p-preserved
loop-p-preserved g c =
    let w = c.args.weights.now in
    let t = touched (g.S.Space.meaning w.space.now) c.args.k w.each.now in
    let one = c.from-count.ensures ∙ byte_bit c.is_touched-touched.result ∙ ap (λ b. cond b 1 0) c.is_touched-touched.ensures in (
      omega (arith, c.loop-p.invariant.0, one, sum_more (λ p. cond (t p) 1 0) c.loop-p.p),
      mark_more t c.loop-p.marks c.loop-p.p c.from.result c.is_touched-touched.result (omega arith) c.from.ensures c.is_touched-touched.ensures c.loop-p.invariant.1,
    )

pub returns : goal.returns
returns g c =
    let w = c.args.weights.now in
    let S = g.S.Space.meaning w.space.now in
    let done = marks_done (touched S c.args.k w.each.now) c.loop-p.marks S.points c.loop-p.p c.loop-p.count (omega arith) (omega (arith, c.requires)) c.loop-p.invariant.0 c.loop-p.invariant.1 in
    record { marks = done.0; count = done.1 }
