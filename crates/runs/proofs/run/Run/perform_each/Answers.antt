use Rattle.std.proofs.Common.{◌≡◌, ℕ, ◌+◌, ◌≤◌, Bool, true, false, cond, List, take, is_ok, sym, ap, subst, arith}
use Rattle.std.proofs.lemmas.List.{take_all}
use Rattle.runs.specs.Runs.{Desk}
use Rattle.runs.specs.Desks.{desk}
use Rattle.runs.proofs.Loans.{lent_same, lent_again}
use Rattle.runs.specs.Histories.{Request, AllPerformedClearing, requests, request_of}
use Rattle.runs.proofs.Performs.{none_performed, more_performed, all_performed, requests_more}
use Rattle.runs.proofs.run.Run.perform_each.Goals as goal

pub loop-call-init : goal.loop-call-init
loop-call-init g c = (none_performed (g.S.Space.meaning c.args.s.now) _ (g.met.S.Space.within c.args.s.now), lent_same c.args.buffers.now, omega arith)

one_more : (b : Bool) (count i next : ℕ) → next ≡ count + cond b 1 0 → count ≤ i → next ≤ i + 1
one_more true count i next is le = omega arith
one_more false count i next is le = omega arith

pub loop-call-preserved : goal.loop-call-preserved
loop-call-preserved g c =
    let was : Desk = desk c.loop-call.self.state c.loop-call.buffers in
    let begun : Desk = desk c.args.self.now.state c.args.buffers.now in
    let after : Desk = desk c.perform-answer.new.self.state c.perform-answer.new.buffers in
    let more = more_performed (g.S.Space.meaning c.args.s.now) (g.met.S.Space.within c.args.s.now) (requests g.F.Finder.promise g.V.Verifier.promise (take c.loop-call.call-index c.args.calls.now))
    (request_of g.F.Finder.promise g.V.Verifier.promise c.call-item.result) begun was after c.perform-answer.result c.loop-call.accepted c.counted-accepted.result c.loop-call.invariant.0 c.perform-answer.ensures.step c.perform-answer.ensures.clearing c.counted-accepted.ensures in (
      subst (λ (qs : List Request). AllPerformedClearing (g.S.Space.meaning c.args.s.now) qs begun after c.counted-accepted.result)
          (sym (requests_more g.F.Finder.promise g.V.Verifier.promise c.args.calls.now c.loop-call.call-index c.call-item.result c.loop-call-test.true c.call-item.is))
          more,
      lent_again _ _ _ c.loop-call.invariant.1 c.perform-answer.ensures.lent,
      one_more (is_ok c.perform-answer.result) c.loop-call.accepted c.loop-call.call-index c.counted-accepted.result c.counted-accepted.ensures c.loop-call.invariant.2,
    )

pub returns : goal.returns
returns g c =
    let all = subst (λ (qs : List Request). AllPerformedClearing (g.S.Space.meaning c.args.s.now) qs
    (desk c.args.self.now.state c.args.buffers.now)
    (desk c.loop-call.self.state c.loop-call.buffers)
    c.loop-call.accepted)
    (ap (requests g.F.Finder.promise g.V.Verifier.promise) (take_all c.loop-call.call-index c.args.calls.now c.loop-call-test.false))
    c.loop-call.invariant.0 in
    record { performed = all_performed (g.S.Space.meaning c.args.s.now) _ _ _ _ all; clearing = all; lent = c.loop-call.invariant.1 }
