use Rattle.runs.specs.Desks.{desk, Lent}
use Rattle.runs.specs.Runs.{Desk}
use Rattle.placing.specs.Playing.{Fitted, Courses, Counted, turns_left}
use Rattle.placing.proofs.play.play_rounds.Given as goal

abbrev pub invariant-loop-run : goal.invariant-loop-run
invariant-loop-run g l =
    let now : Desk = desk l.run.state l.buffers in
    let begun : Desk = desk l.initial.run.state l.initial.buffers in
    Fitted (g.S.Space.meaning l.s) ((g.F.Finder.promise l.f).need (g.S.Space.meaning l.s).points (g.S.Space.meaning l.s).ranges) now
    × Courses (g.F.Finder.promise l.f) (g.V.Verifier.promise l.v) (g.S.Space.meaning l.s) begun now l.rounds
    × Counted now l.rounds
    × Lent l.initial.buffers l.buffers

abbrev pub decreases-loop-run : goal.decreases-loop-run
decreases-loop-run g l = turns_left (desk l.run.state l.buffers)
