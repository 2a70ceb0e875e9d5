use Rattle.std.proofs.Common.{◌≤◌, take}
use Rattle.runs.specs.Histories.{AllPerformedClearing, requests}
use Rattle.runs.specs.Desks.{desk, Lent}
use Rattle.runs.proofs.run.Run.perform_each.Given as goal

-- the calls so far are performed
abbrev pub invariant-loop-call : goal.invariant-loop-call
invariant-loop-call g l =
    AllPerformedClearing (g.S.Space.meaning l.s) (requests g.F.Finder.promise g.V.Verifier.promise (take l.call-index l.calls))
    (desk l.initial.self.state l.initial.buffers)
    (desk l.self.state l.buffers)
    l.accepted
    × Lent l.initial.buffers l.buffers
    × (l.accepted ≤ l.call-index)
