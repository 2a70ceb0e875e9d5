use Rattle.std.proofs.Common.{◌≡◌}
use Rattle.ranges.specs.Below.{count_below}
use Rattle.ranges.specs.Weights.{heavy}
use Rattle.greedy.specs.Flags.{bit, over}
use Rattle.greedy.proofs.greedy.flag_heavy.Given as goal

abbrev pub invariant-loop-j : goal.invariant-loop-j
invariant-loop-j g l =
    (l.flags ≡ over (λ j. bit (heavy (g.S.Space.meaning l.weights.space.now) l.k l.weights.each.now j)) l.j l.initial.flags)
    × (l.count ≡ count_below (heavy (g.S.Space.meaning l.weights.space.now) l.k l.weights.each.now) l.j)
