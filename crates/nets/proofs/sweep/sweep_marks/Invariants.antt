use Rattle.std.proofs.Common.{◌≡◌, ℕ, ◌<◌, cond, get_or}
use Rattle.ranges.specs.Below.{count_below}
use Rattle.nets.specs.Sweeps.{carried, full}
use Rattle.nets.proofs.sweep.sweep_marks.Given as goal

-- the sum is carried, the marks so far are written and counted
abbrev pub invariant-loop-p : goal.invariant-loop-p
invariant-loop-p g l =
    (l.sum ≡ carried l.k l.weights.each.now l.p)
    × (l.count ≡ count_below (full l.k l.weights.each.now) l.p)
    × ((q : ℕ) → q < l.p → get_or l.marks q 0 ≡ cond (full l.k l.weights.each.now q) 1 0)
