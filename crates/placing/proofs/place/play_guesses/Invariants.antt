use Rattle.std.proofs.Common.{◌-◌, ◌*◌, ◌≤◌, length}
use Rattle.guesses.specs.Books.{book_lines}
use Rattle.runs.specs.Desks.{desk, Lent}
use Rattle.runs.specs.Runs.{Desk}
use Rattle.placing.specs.Playing.{Settled, SoFar}
use Rattle.placing.proofs.place.play_guesses.Given as goal

abbrev pub invariant-loop-k : goal.invariant-loop-k
invariant-loop-k g l =
    let now : Desk = desk l.run.state l.buffers in
    let begun : Desk = desk l.initial.run.state l.initial.buffers in
    Settled (g.F.Finder.promise l.f) (g.V.Verifier.promise l.v) (g.S.Space.meaning l.s) l.k now l.writer l.sheet
    × SoFar (g.F.Finder.promise l.f) (g.V.Verifier.promise l.v) (g.S.Space.meaning l.s) l.k begun l.initial.writer l.initial.sheet now l.writer l.sheet l.rounds
    × (l.rounds ≤ 12288 * length (book_lines l.run.state.book))
    × (l.k ≤ l.n)
    × Lent l.initial.buffers l.buffers

abbrev pub decreases-loop-k : goal.decreases-loop-k
decreases-loop-k g l = l.n - l.k
