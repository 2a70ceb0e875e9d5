use Rattle.std.proofs.Common.{◌≡◌, ◌&&◌}
use Rattle.ranges.specs.Below.{count_below}
use Rattle.greedy.specs.Flags.{flagged, lowered, taken, Known, over}
use Rattle.greedy.proofs.greedy.lower_flags.Given as goal

abbrev pub invariant-loop-j : goal.invariant-loop-j
invariant-loop-j g l =
    (l.flags ≡ over (lowered (g.S.Space.meaning l.s) l.p.0 l.initial.flags) l.j l.initial.flags)
    × (l.gain ≡ count_below (λ j. flagged l.initial.flags j && (g.S.Space.meaning l.s).holds j l.p.0) l.j)
    × Known (g.S.Space.meaning l.s) l.flags l.marks
    × (taken l.marks ≡ taken l.initial.marks)
