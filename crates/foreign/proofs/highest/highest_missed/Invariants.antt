use Rattle.std.proofs.Common.{◌≡◌}
use Rattle.ranges.specs.Weights.{marked, missed}
use Rattle.foreign.specs.Greatest.{greatest_below, highest_missed}
use Rattle.foreign.proofs.highest.highest_missed.Given as goal

-- no range from here on is missed
abbrev pub invariant-loop-j : goal.invariant-loop-j
invariant-loop-j g l =
    greatest_below (missed (g.S.Space.meaning l.s) (marked l.marks)) l.j ≡ highest_missed (g.S.Space.meaning l.s) l.marks
