use Rattle.std.proofs.Common.{◌≡◌}
use Rattle.greedy.specs.Flags.{less_held, over}
use Rattle.greedy.proofs.greedy.lower_gains.Given as goal

abbrev pub invariant-loop-p : goal.invariant-loop-p
invariant-loop-p g l = l.marks ≡ over (less_held (g.S.Space.meaning l.s) l.j.0 l.initial.marks) l.p l.initial.marks
