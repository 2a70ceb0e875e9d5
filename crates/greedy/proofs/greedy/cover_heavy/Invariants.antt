use Rattle.greedy.proofs.Kept.{Kept}
use Rattle.greedy.proofs.greedy.cover_heavy.Given as goal

abbrev pub invariant-loop-unhit : goal.invariant-loop-unhit
invariant-loop-unhit g l = Kept (g.S.Space.meaning l.s) l.k l.weights.each.now l.flags l.marks l.unhit l.count

abbrev pub decreases-loop-unhit : goal.decreases-loop-unhit
decreases-loop-unhit g l = l.unhit
