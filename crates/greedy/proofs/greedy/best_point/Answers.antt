use Rattle.std.proofs.Common.{◌<◌, length, ◌∙◌, arith}
use Rattle.greedy.specs.Flags.{flag_gain}
use Rattle.greedy.specs.Best.{largest_more, best_step}
use Rattle.greedy.proofs.Bytes.{known_set, taken_set}
use Rattle.greedy.proofs.greedy.best_point.Goals as goal

pub loop-p-preserved : goal.loop-p-preserved
loop-p-preserved g c =
    let S = g.S.Space.meaning c.args.s.now in
    let l : c.loop-p.p < length c.loop-p.marks = omega arith in
    let more = largest_more (flag_gain S c.args.flags.now) c.loop-p.p in (
      c.better-best.ensures.point ∙ best_step (flag_gain S c.args.flags.now) c.loop-p.p c.loop-p.best.point.0 c.loop-p.best.gain _ c.loop-p.invariant.0 c.loop-p.invariant.1 c.known_gain-gain.ensures.value,
      omega (arith, c.better-best.ensures.gain, c.known_gain-gain.ensures.value, more, c.loop-p.invariant.1),
      known_set S c.args.flags.now c.loop-p.marks c.loop-p.p _ l c.loop-p.invariant.2 c.known_gain-gain.ensures.known,
      taken_set c.loop-p.marks c.loop-p.p _ l c.known_gain-gain.ensures.taken ∙ c.loop-p.invariant.3,
    )
