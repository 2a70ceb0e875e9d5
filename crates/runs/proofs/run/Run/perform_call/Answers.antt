use Rattle.std.proofs.Common.{sym, ap, subst, rules}
use Rattle.runs.specs.Runs.{Desk}
use Rattle.runs.specs.Desks.{desk}
use Rattle.runs.specs.Histories.{Request, Performed, Clears, request_of}
use Rattle.runs.proofs.Performs.{begin_performed, open_performed, give_up_performed, round_performed, round_clears}
use Rattle.runs.proofs.run.Run.perform_call.Goals as goal

pub returns-in-Begin : goal.returns-in-Begin
returns-in-Begin g c =
    let before : Desk = desk c.args.self.now.state c.args.buffers.now in
    let after : Desk = desk c.begin.new.self.state c.args.buffers.now in
    record {
      step = subst (λ (q : Request). Performed (g.S.Space.meaning c.args.s.now) q c.begin.result before after) (ap (request_of g.F.Finder.promise g.V.Verifier.promise) (sym c.in-Begin.is))
          (begin_performed (g.S.Space.meaning c.args.s.now) before after c.begin.result c.begin.ensures.answer (λ i. record { state = c.begin.ensures.state i; weights = c.args.buffers.now.weights.now; marks = c.args.buffers.now.marks.now; ledger = c.args.buffers.now.ledger.now; scratch = c.args.buffers.now.scratch.now }));
      clearing = subst (λ (q : Request). Clears (g.S.Space.meaning c.args.s.now) q c.begin.result before after) (ap (request_of g.F.Finder.promise g.V.Verifier.promise) (sym c.in-Begin.is))
          tt;
      lent = search rules;
    }

pub returns-in-Open : goal.returns-in-Open
returns-in-Open g c =
    let before : Desk = desk c.args.self.now.state c.args.buffers.now in
    let after : Desk = record { state = c.open.new.self.state; weights = c.open.new.weights; marks = c.args.buffers.now.marks.now; ledger = c.args.buffers.now.ledger.now; scratch = c.args.buffers.now.scratch.now } in
    record {
      step = subst (λ (q : Request). Performed (g.S.Space.meaning c.args.s.now) q c.open.result before after) (ap (request_of g.F.Finder.promise g.V.Verifier.promise) (sym c.in-Open.is))
          (open_performed (g.S.Space.meaning c.args.s.now) c.in-Open.k before after c.open.result c.open.ensures.answer (λ i. record { state = c.open.ensures.state i; weights = c.open.ensures.weights i; marks = c.args.buffers.now.marks.now; ledger = c.args.buffers.now.ledger.now; scratch = c.args.buffers.now.scratch.now }));
      clearing = subst (λ (q : Request). Clears (g.S.Space.meaning c.args.s.now) q c.open.result before after) (ap (request_of g.F.Finder.promise g.V.Verifier.promise) (sym c.in-Open.is))
          tt;
      lent = search rules;
    }

pub returns-in-Round : goal.returns-in-Round
returns-in-Round g c =
    let before : Desk = desk c.args.self.now.state c.args.buffers.now in
    let after : Desk = desk c.round.new.self.state c.round.new.buffers in
    record {
      step = subst (λ (q : Request). Performed (g.S.Space.meaning c.args.s.now) q c.round.result before after) (ap (request_of g.F.Finder.promise g.V.Verifier.promise) (sym c.in-Round.is))
          (round_performed (g.F.Finder.promise c.in-Round.f.now) (g.V.Verifier.promise c.in-Round.v.now) (g.S.Space.meaning c.args.s.now) before after c.round.result (g.met.F.Finder.sound c.in-Round.f.now) (g.met.V.Verifier.sound c.in-Round.v.now) (g.met.S.Space.within c.args.s.now) c.args.self.now.some_guess c.args.self.now.few_guess c.args.self.now.few_points c.args.self.now.unfinished c.args.self.now.grown c.round.ensures.check c.round.ensures.done);
      clearing = subst (λ (q : Request). Clears (g.S.Space.meaning c.args.s.now) q c.round.result before after) (ap (request_of g.F.Finder.promise g.V.Verifier.promise) (sym c.in-Round.is))
          (round_clears (g.F.Finder.promise c.in-Round.f.now) (g.V.Verifier.promise c.in-Round.v.now) (g.S.Space.meaning c.args.s.now) before after c.round.result c.round.ensures.done);
      lent = search rules;
    }

pub returns-in-GiveUp : goal.returns-in-GiveUp
returns-in-GiveUp g c =
    let before : Desk = desk c.args.self.now.state c.args.buffers.now in
    let after : Desk = desk c.give_up.new.self.state c.args.buffers.now in
    record {
      step = subst (λ (q : Request). Performed (g.S.Space.meaning c.args.s.now) q c.give_up.result before after) (ap (request_of g.F.Finder.promise g.V.Verifier.promise) (sym c.in-GiveUp.is))
          (give_up_performed (g.S.Space.meaning c.args.s.now) before after c.give_up.result c.give_up.ensures.answer (λ i. record { state = c.give_up.ensures.state i; weights = c.args.buffers.now.weights.now; marks = c.args.buffers.now.marks.now; ledger = c.args.buffers.now.ledger.now; scratch = c.args.buffers.now.scratch.now }));
      clearing = subst (λ (q : Request). Clears (g.S.Space.meaning c.args.s.now) q c.give_up.result before after) (ap (request_of g.F.Finder.promise g.V.Verifier.promise) (sym c.in-GiveUp.is))
          tt;
      lent = search rules;
    }
