use Rattle.std.proofs.Common.{length, sym}
use Rattle.runs.proofs.Openings.{open_ready, open_keeps}
use Rattle.runs.proofs.run.Run.open.Goals as goal

pub invariant_of-self : goal.invariant_of-self
invariant_of-self g c =
    let ready = open_ready (g.S.Space.meaning c.args.s.now) c.args.self.now.state c.args.k (length c.args.weights.now) (length c.args.ledger.now) (g.met.S.Space.within c.args.s.now) (sym c.in_ok-check_open.ensures.check) in
    let kept = open_keeps c.args.self.now.state c.opened-self.result c.args.k c.opened-self.ensures ready.0 ready.1 ready.2 in
    record { some_guess = kept.0; few_guess = kept.1.0; few_points = kept.1.1.0; unfinished = kept.1.1.1.0; grown = kept.1.1.1.1.0 }
