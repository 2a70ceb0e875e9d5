use Rattle.std.proofs.Common.{◌*◌, sym, ap, subst, arith}
use Rattle.nets.specs.Finders.{Asked}
use Rattle.ledgers.specs.Doublings.{Grown}
use Rattle.runs.specs.declared.state.OpenGuess.{OpenGuess}
use Rattle.runs.proofs.Rounds.{judged_light, miss_keeps}
use Rattle.runs.proofs.run.Run.play_round.Goals as goal

pub invariant_of-self : goal.invariant_of-self
invariant_of-self g c =
    let ready = c.in_ok-guess.ensures.ready in
    let asked : Asked (g.S.Space.meaning c.args.s.now) c.in_ok-guess.guess.k c.args.buffers.now.weights.now = record { within = ready.13; long = ready.3; some = ready.6; few = omega (arith, ready.7, ready.2); small = ready.5 } in
    let light = judged_light (g.F.Finder.promise c.args.f.now) (g.V.Verifier.promise c.args.v.now) (g.S.Space.meaning c.args.s.now) c.in_ok-guess.guess.k c.args.buffers.now.weights.now c.play-points.new.marks c.play-points.result.1 c.in-Some.j
    (g.met.F.Finder.sound c.args.f.now) (g.met.V.Verifier.sound c.args.v.now) asked c.play-points.ensures.net.0 c.play-points.ensures.net.2 c.in-Some.is in
    let grown = subst (λ (x : OpenGuess). Grown c.args.self.now.state.n x.k x.doublings x.total) (sym ready.11) (c.args.self.now.grown ready.1) in
    let kept = miss_keeps c.args.self.now.state c.missed-self.result c.in_ok-guess.guess c.missed_weight-weight.result c.missed-self.ensures ready.6 ready.7 ready.8 ready.9 grown
    (omega (arith, ap (λ x. 2 * c.in_ok-guess.guess.k * x) c.missed_weight-weight.ensures.weight, light, ready.4)) in
    record { some_guess = kept.0; few_guess = kept.1.0; few_points = kept.1.1.0; unfinished = kept.1.1.1.0; grown = kept.1.1.1.1.0 }
