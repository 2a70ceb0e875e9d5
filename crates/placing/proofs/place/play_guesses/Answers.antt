use Rattle.std.proofs.Common.{◌≡◌, ℕ, sym, ap, ◌∙◌, subst, arith}
use Rattle.std.proofs.lemmas.Bool.{eqb-true, eqb-false}
use Rattle.runs.specs.Desks.{desk}
use Rattle.runs.specs.Runs.{Desk}
use Rattle.runs.proofs.Loans.{lent_same, lent_again}
use Rattle.placing.specs.Playing.{Ahead, following}
use Rattle.placing.proofs.Stories.{ready_small, points_some}
use Rattle.placing.proofs.place.play_guesses.Goals as goal

pub loop-k-init : goal.loop-k-init
loop-k-init g c =
    let S = g.S.Space.meaning c.args.s.now in
    let F = g.F.Finder.promise c.args.f.now in
    let V = g.V.Verifier.promise c.args.v.now in
    let before : Desk = desk c.args.run.now.state c.args.buffers.now in
    let within = g.met.S.Space.within c.args.s.now in
    let small = ready_small F V S 1 before c.args.writer.now c.args.sheet.now within c.requires in
    let none : c.args.run.now.state.floor ≡ 0 = omega (arith, c.requires.floor) in (
      record {
        fitted = c.requires.fitted;
        onward = λ _. (points_some F V S 1 before c.args.writer.now c.args.sheet.now within c.requires, c.requires);
        short = small.3;
        lines = omega (arith, small.2);
      },
      λ from sheet₀ blank ahead. ((λ _. ahead), (λ other. absurd (other none))),
      omega arith,
      omega arith,
      lent_same c.args.buffers.now,
    )

pub loop-k-preserved : goal.loop-k-preserved
loop-k-preserved g c =
    let S = g.S.Space.meaning c.args.s.now in
    let F = g.F.Finder.promise c.args.f.now in
    let V = g.V.Verifier.promise c.args.v.now in
    let was : Desk = desk c.loop-k.run.state c.loop-k.buffers in
    let raised : c.loop-k.run.state.floor ≡ c.loop-k.k = eqb-true _ _ (sym c.is_ruled_out.ensures ∙ c.loop-k-test.true) in
    let value = c.points-n.ensures in
    let k-is : c.next_guess-k.result ≡ following S.points c.loop-k.k = c.next_guess-k.ensures ∙ ap (λ n. following n c.loop-k.k) value in
    let onward = c.loop-k.invariant.0.onward raised in
    let small = ready_small F V S (following S.points c.loop-k.k) was c.loop-k.writer c.loop-k.sheet (g.met.S.Space.within c.args.s.now) onward.1 in (
      c.play_guess.ensures.settled,
      λ from sheet₀ blank ahead. c.play_guess.ensures.plays from sheet₀ c.loop-k.rounds blank
          (subst (λ (x : ℕ). Ahead F V S from sheet₀ x c.loop-k.rounds was c.loop-k.writer c.loop-k.sheet) (sym k-is) ((c.loop-k.invariant.1 from sheet₀ blank ahead).0 raised)),
      omega (arith, c.loop-k.invariant.2, c.play_guess.ensures.rounds, c.play_guess.ensures.lines),
      omega (arith, k-is, value, small.1),
      lent_again _ _ _ c.loop-k.invariant.4 c.play_guess.ensures.lent,
    )

pub returns : goal.returns
returns g c =
    let settled = c.loop-k.invariant.0 in
    let other : c.loop-k.run.state.floor ≡ c.loop-k.k → ⊥ = eqb-false _ _ (sym c.is_ruled_out.ensures ∙ c.loop-k-test.false) in
    record {
      fitted = settled.fitted;
      short = settled.short;
      lines = settled.lines;
      lent = c.loop-k.invariant.4;
      ends = λ from sheet₀ blank ahead. (c.loop-k.invariant.1 from sheet₀ blank ahead).1 other;
    }
