use Rattle.std.proofs.Common.{not, sym, ap, ◌∙◌}
use Rattle.ranges.specs.Weights.{marked, missed}
use Rattle.foreign.specs.HighestMissed.{greatest_here, greatest_passed}
use Rattle.foreign.proofs.highest.highest_missed.Goals as goal

pub returns-then-not-is_hit : goal.returns-then-not-is_hit
returns-then-not-is_hit g c =
    sym (greatest_here (missed (g.S.Space.meaning c.args.s.now) (marked c.args.marks.now)) c.loop-j.j c.loop-j-test.true (sym (ap not c.if-not-is_hit.ensures)))
    ∙ c.loop-j.invariant

pub loop-j-preserved : goal.loop-j-preserved
loop-j-preserved g c =
    sym (greatest_passed (missed (g.S.Space.meaning c.args.s.now) (marked c.args.marks.now)) c.loop-j.j c.loop-j-test.true (sym (ap not c.if-not-is_hit.ensures)))
    ∙ c.loop-j.invariant
