use Rattle.std.proofs.Common.{◌≡◌}
use Rattle.greedy.specs.Greedy.{best_below}
use Rattle.greedy.specs.Flags.{flag_gain, taken, Known}
use Rattle.greedy.specs.Best.{largest_below}
use Rattle.greedy.proofs.greedy.best_point.Given as goal

abbrev pub invariant-loop-p : goal.invariant-loop-p
invariant-loop-p g l =
    (l.best.point.0 ≡ best_below (flag_gain (g.S.Space.meaning l.s) l.flags) l.p)
    × (l.best.gain ≡ largest_below (flag_gain (g.S.Space.meaning l.s) l.flags) l.p)
    × Known (g.S.Space.meaning l.s) l.flags l.marks
    × (taken l.marks ≡ taken l.initial.marks)
