use Rattle.std.proofs.Common.{◌≡◌}
use Rattle.greedy.specs.Flags.{bit, taken, over}
use Rattle.greedy.proofs.greedy.settle_marks.Given as goal

abbrev pub invariant-loop-byte : goal.invariant-loop-byte
invariant-loop-byte l = l.marks ≡ over (λ p. bit (taken l.initial.marks p)) l.byte-index l.initial.marks
