use Rattle.std.proofs.Common.{eqb, refl, ap, ◌∙◌, arith}
use Rattle.greedy.specs.Flags.{bit, taken}
use Rattle.greedy.proofs.Overs.{over_next, over_step, over_done}
use Rattle.greedy.proofs.greedy.settle_marks.Goals as goal

pub loop-byte-preserved : goal.loop-byte-preserved
loop-byte-preserved c =
    let next = over_next (λ p. bit (taken c.args.marks.now p)) c.args.marks.now c.loop-byte.marks c.loop-byte.byte-index c.loop-byte.invariant (omega arith) in
    over_step (λ p. bit (taken c.args.marks.now p)) c.args.marks.now _ _ _ c.loop-byte.invariant (omega arith)
    (c.final_mark.ensures ∙ ap (λ x. bit (eqb x 255)) next)

pub returns : goal.returns
returns c = over_done (λ p. bit (taken c.args.marks.now p)) c.args.marks.now _ _ _ c.loop-byte.invariant (omega arith) refl
