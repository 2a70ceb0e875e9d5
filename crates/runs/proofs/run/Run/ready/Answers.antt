use Rattle.std.proofs.Common.{◌≡◌, ap, ◌∙◌}
use Rattle.runs.specs.Runs.{or_guess, round_check, guess_of}
use Rattle.runs.proofs.Rounds.{guess_small, round_ready}
use Rattle.runs.proofs.run.Run.ready.Goals as goal

pub check_round-requires : goal.check_round-requires
check_round-requires g c =
    let run = c.args.self.now in
    record { some = run.some_guess; few = run.few_guess; small = guess_small run.state run.some_guess run.few_guess run.few_points run.unfinished run.grown }

pub returns : goal.returns
returns g c =
    let run = c.args.self.now in
    let needed : c.need-need.result ≡ (g.F.Finder.promise c.args.f.now).need (g.S.Space.meaning c.args.s.now).points (g.S.Space.meaning c.args.s.now).ranges = c.need-need.ensures ∙ (λ d. (g.F.Finder.promise c.args.f.now).need (c.points.ensures d) (c.ranges-2.ensures d)) in
    let check = c.check_round.ensures.check ∙ ap (λ x. or_guess (round_check (g.S.Space.meaning c.args.s.now) run.state c.args.weights.now c.args.lengths.marks c.args.lengths.ledger c.args.lengths.scratch x) (guess_of run.state.phase)) needed in
    record {
      check = check;
      ready = round_ready (g.S.Space.meaning c.args.s.now) run.state c.args.weights.now c.args.lengths.marks c.args.lengths.ledger c.args.lengths.scratch _
          (g.met.S.Space.within c.args.s.now) run.some_guess run.few_guess run.few_points run.unfinished run.grown c.check_round.result check;
    }
