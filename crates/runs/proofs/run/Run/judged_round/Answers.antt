use Rattle.std.proofs.Common.{◌≡◌, sym}
use Rattle.ranges.specs.Weights.{range_of}
use Rattle.runs.specs.Runs.{Desk, round_desk}
use Rattle.std.proofs.lemmas.Result.{err_from_is_err_and}
use Rattle.runs.specs.Desks.{desk}
use Rattle.runs.proofs.Performs.{round_step, step_law, refused_law}
use Rattle.runs.proofs.run.Run.judged_round.Goals as goal

pub returns : goal.returns
returns g c =
    let e = c.in_ok-play_round.ensures in
    let o = range_of c.in_ok-play_round.field-0 in
    let run = c.args.self.now in
    let before : Desk = desk run.state c.args.buffers.now in
    let after : Desk = desk c.play_round.new.self.state c.play_round.new.buffers in
    let F = g.F.Finder.promise c.args.f.now in
    let S = g.S.Space.meaning c.args.s.now in
    let is : after ≡ round_desk S (F.need S.points S.ranges) before c.play_round.new.buffers.marks.now o = (λ i. record { state = e.state i; weights = e.weights i; marks = c.play_round.new.buffers.marks.now; ledger = e.ledger i; scratch = e.scratch i }) in
    record {
      lent = e.lent;
      check = e.check;
      done = (o, e.net.0, e.net.1, is);
      law = step_law S (g.met.S.Space.within c.args.s.now)
          (round_step F (g.V.Verifier.promise c.args.v.now) S before after c.play_round.new.buffers.marks.now o (g.met.F.Finder.sound c.args.f.now) (g.met.V.Verifier.sound c.args.v.now) (g.met.S.Space.within c.args.s.now)
          run.some_guess run.few_guess run.few_points run.unfinished run.grown (sym e.check) e.net.0 e.net.1 is);
    }

pub returns-in_err-play_round : goal.returns-in_err-play_round
returns-in_err-play_round g c =
    let e = c.in_err-play_round.ensures in
    let run = c.args.self.now in
    let before : Desk = desk run.state c.args.buffers.now in
    let after : Desk = desk c.play_round.new.self.state c.play_round.new.buffers in
    let is : after ≡ before = (λ i. record { state = e.state i; weights = e.weights i; marks = e.net i; ledger = e.ledger i; scratch = e.scratch i }) in
    let p = err_from_is_err_and c.from_residual.result c.from_residual.ensures.1 in
    rw (p.1, p.2) (record { lent = e.lent; check = e.check; done = is; law = refused_law (g.S.Space.meaning c.args.s.now) (g.met.S.Space.within c.args.s.now) before after is })
