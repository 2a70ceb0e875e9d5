use Rattle.std.proofs.Common.{◌≡◌, ℕ, ◌<◌, cond, get_or}
use Rattle.ranges.specs.Below.{count_below}
use Rattle.foreign.specs.Touched.{touched}
use Rattle.foreign.proofs.touching.mark_touched.Given as goal

-- the marks so far are written and counted
abbrev pub invariant-loop-p : goal.invariant-loop-p
invariant-loop-p g l =
    (l.count ≡ count_below (touched (g.S.Space.meaning l.weights.space.now) l.k l.weights.each.now) l.p)
    × ((q : ℕ) → q < l.p → get_or l.marks q 0 ≡ cond (touched (g.S.Space.meaning l.weights.space.now) l.k l.weights.each.now q) 1 0)
