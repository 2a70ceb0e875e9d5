use Rattle.std.proofs.Common.{cond, ◌&&◌, ap, ◌∙◌, arith, rules}
use Rattle.std.proofs.lemmas.Bool.Decides.{nat_tests}
use Rattle.ranges.proofs.Sums.{sum_more, count_le}
use Rattle.greedy.specs.Flags.{flagged, lowered, taken}
use Rattle.greedy.proofs.Overs.{over_next, over_step, over_done}
use Rattle.greedy.proofs.Bytes.{known_hit, known_kept, taken_less}
use Rattle.greedy.proofs.greedy.lower_flags.Goals as goal
use Rattle.greedy.proofs.greedy.lower_flags.Goals.{then-lower_flag, else-lower_flag}

pub overflow_add-gain : goal.overflow_add-gain
overflow_add-gain g c =
    omega (arith, count_le (λ j. flagged c.args.flags.now j && (g.S.Space.meaning c.args.s.now).holds j c.args.p.0) c.loop-j.j)

pub loop-j-preserved : goal.loop-j-preserved
loop-j-preserved g c =
    let S = g.S.Space.meaning c.args.s.now in
    let next = over_next (lowered S c.args.p.0 c.args.flags.now) c.args.flags.now c.loop-j.flags c.loop-j.j c.loop-j.invariant.0 (omega arith) in
    let more = sum_more (λ j. cond (flagged c.args.flags.now j && S.holds j c.args.p.0) 1 0) c.loop-j.j in (
      over_step (lowered S c.args.p.0 c.args.flags.now) c.args.flags.now _ _ _ c.loop-j.invariant.0 (omega arith) (cc),
      grind (arith, nat_tests),
      elim c.if-lower_flag.branch [
        | then-lower_flag w ↦ known_hit S c.loop-j.flags c.loop-j.marks _ c.loop-j.j _ _ _ (omega arith) (omega arith) c.loop-j.invariant.2 c.lower_flag.ensures.flag c.lower_flag.ensures.answer w.if-lower_flag.true (w.marks-is ∙ w.lower_gains.ensures)
        | else-lower_flag w ↦ known_kept S c.loop-j.flags c.loop-j.marks _ c.loop-j.j _ _ c.loop-j.invariant.2 c.lower_flag.ensures.flag w.if-lower_flag.false w.marks-is
      ],
      elim c.if-lower_flag.branch [
        | then-lower_flag w ↦ ap taken (w.marks-is ∙ w.lower_gains.ensures) ∙ taken_less S c.loop-j.marks c.loop-j.j (omega arith) ∙ c.loop-j.invariant.3
        | else-lower_flag w ↦ ap taken w.marks-is ∙ c.loop-j.invariant.3
      ],
    )

pub returns : goal.returns
returns g c = record {
  flags = over_done (lowered (g.S.Space.meaning c.args.s.now) c.args.p.0 c.args.flags.now) c.args.flags.now _ _ _ c.loop-j.invariant.0 (omega arith) (omega arith);
  known = c.loop-j.invariant.2;
  taken = c.loop-j.invariant.3;
  count = search rules;
}
