use Rattle.std.proofs.Common.{◌≡◌, true, Result, sym, ◌∙◌, subst, rules}
use Rattle.ranges.specs.declared.refusal.Refusal.{Refusal}
use Rattle.runs.specs.Histories.{RoundDone}
use Rattle.runs.proofs.Loans.{lent_again}
use Rattle.runs.specs.Desks.{desk}
use Rattle.runs.specs.Runs.{Desk, is_guessing}
use Rattle.placing.proofs.Accepts.{round_accepted}
use Rattle.placing.proofs.Rounds.{next_fitted, next_counted, next_turns, next_course}
use Rattle.placing.proofs.play.play_rounds.Goals as goal

pub loop-run-smaller : goal.loop-run-smaller
loop-run-smaller g c =
    let run = c.loop-run.run in
    let was : Desk = desk run.state c.loop-run.buffers in
    let after : Desk = desk c.round.new.self.state c.round.new.buffers in
    let is_open : is_guessing run.state.phase ≡ true = sym c.is_guessing.ensures ∙ c.loop-run-test.true in
    next_turns (g.F.Finder.promise c.args.f.now) (g.V.Verifier.promise c.args.v.now) (g.S.Space.meaning c.args.s.now) was after (g.met.F.Finder.sound c.args.f.now) (g.met.V.Verifier.sound c.args.v.now) (g.met.S.Space.within c.args.s.now)
    run.some_guess run.few_guess run.few_points run.unfinished run.grown c.loop-run.invariant.0 is_open (sym c.unwrap.ensures ∙ c.round.ensures.check)
    (subst (λ (r : Result Unit Refusal). RoundDone (g.F.Finder.promise c.args.f.now) (g.V.Verifier.promise c.args.v.now) (g.S.Space.meaning c.args.s.now) r was after) c.unwrap.ensures c.round.ensures.done)

pub loop-run-preserved : goal.loop-run-preserved
loop-run-preserved g c =
    let run = c.loop-run.run in
    let F = g.F.Finder.promise c.args.f.now in
    let V = g.V.Verifier.promise c.args.v.now in
    let S = g.S.Space.meaning c.args.s.now in
    let finder = g.met.F.Finder.sound c.args.f.now in
    let verifier = g.met.V.Verifier.sound c.args.v.now in
    let within = g.met.S.Space.within c.args.s.now in
    let was : Desk = desk run.state c.loop-run.buffers in
    let after : Desk = desk c.round.new.self.state c.round.new.buffers in
    let is_open : is_guessing run.state.phase ≡ true = sym c.is_guessing.ensures ∙ c.loop-run-test.true in
    let check = sym c.unwrap.ensures ∙ c.round.ensures.check in
    let done = subst (λ (r : Result Unit Refusal). RoundDone F V S r was after) c.unwrap.ensures c.round.ensures.done in
    let fit = c.loop-run.invariant.0 in (
      next_fitted F V S was after finder verifier within run.some_guess run.few_guess run.few_points run.unfinished run.grown fit is_open check done,
      λ from old k floor lines course. next_course F V S was after finder verifier within run.some_guess run.few_guess run.few_points run.unfinished run.grown fit is_open check done from old k floor lines c.loop-run.rounds
          (c.loop-run.invariant.1 from old k floor lines course),
      next_counted F V S was after finder verifier within run.some_guess run.few_guess run.few_points run.unfinished run.grown fit is_open check done c.loop-run.rounds c.loop-run.invariant.2,
      lent_again _ _ _ c.loop-run.invariant.3 c.round.ensures.lent,
    )

pub unwrap-requires : goal.unwrap-requires
unwrap-requires g c =
    let run = c.loop-run.run in
    let F = g.F.Finder.promise c.args.f.now in
    let S = g.S.Space.meaning c.args.s.now in
    let was : Desk = desk run.state c.loop-run.buffers in
    let is_open : is_guessing run.state.phase ≡ true = sym c.is_guessing.ensures ∙ c.loop-run-test.true in
    let fine = round_accepted S (F.need S.points S.ranges) was c.loop-run.invariant.0 run.some_guess run.few_guess run.few_points is_open in
    let ok = c.round.ensures.check ∙ fine in
    search rules
