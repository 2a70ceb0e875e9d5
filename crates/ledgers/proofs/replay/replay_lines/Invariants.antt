use Rattle.std.proofs.Common.{◌≡◌, drop}
use Rattle.ranges.specs.Weights.{total}
use Rattle.ledgers.specs.Replays.{replayed, replayed_weights}
use Rattle.ledgers.specs.Doublings.{Grown}
use Rattle.ledgers.proofs.replay.replay_lines.Given as goal

-- what is left of the ledger gives the answer, and the total has grown as light ranges let it
abbrev pub invariant-loop-i : goal.invariant-loop-i
invariant-loop-i g l =
    (replayed (g.S.Space.meaning l.s) l.k l.i l.weights (drop l.i l.ledger) ≡ replayed (g.S.Space.meaning l.s) l.k 0 l.initial.weights l.ledger)
    × (replayed_weights (g.S.Space.meaning l.s) l.k l.weights (drop l.i l.ledger) ≡ replayed_weights (g.S.Space.meaning l.s) l.k l.initial.weights l.ledger)
    × Grown (g.S.Space.meaning l.s).points l.k l.i (total l.weights)
