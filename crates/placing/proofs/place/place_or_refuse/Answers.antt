use Rattle.std.proofs.Common.{◌≡◌, ℕ, List, length, sym, refl, ◌∙◌, subst, arith}
use Rattle.ranges.specs.Weights.{chosen}
use Rattle.runs.specs.Runs.{Desk, blank_state}
use Rattle.placing.specs.Placements.{place_check, Buffers, start_desk, Placed}
use Rattle.placing.specs.Lending.{with_sheet}
use Rattle.placing.proofs.Ends.{checked, clean_none}
use Rattle.placing.proofs.Only.{only_placed}
use Rattle.placing.proofs.place.place_or_refuse.Goals as goal

pub place_checked-requires : goal.place_checked-requires
place_checked-requires g c =
    let S = g.S.Space.meaning c.args.s.now in
    let F = g.F.Finder.promise c.args.f.now in
    let needed : c.need-need.result ≡ F.need S.points S.ranges = c.need-need.ensures ∙ (λ i. F.need (c.points.ensures i) (c.ranges-2.ensures i)) in
    let check = (c.in_ok-check_place.ensures.check ∙ (λ i. place_check S (needed i) (c.lengths.ensures.weights i) (c.lengths.ensures.marks i) (c.lengths.ensures.ledger i) (c.lengths.ensures.scratch i) (length c.args.sheet.now))) in
    let long : length c.clean_marks.new.marks ≡ length c.args.buffers.now.marks.now = omega arith in
    checked F S (length c.args.buffers.now.weights.now) (length c.args.buffers.now.marks.now) (length c.args.buffers.now.ledger.now) (length c.args.buffers.now.scratch.now) (length c.args.sheet.now) c.clean_marks.new.marks (sym check) long
    (λ none. subst (λ (ms : List ℕ). chosen ms ≡ 0) (sym c.clean_marks.ensures) (clean_none S c.args.buffers.now.marks.now none))

pub returns : goal.returns
returns g c =
    let S = g.S.Space.meaning c.args.s.now in
    let F = g.F.Finder.promise c.args.f.now in
    let V = g.V.Verifier.promise c.args.v.now in
    let needed : c.need-need.result ≡ F.need S.points S.ranges = c.need-need.ensures ∙ (λ i. F.need (c.points.ensures i) (c.ranges-2.ensures i)) in
    let before : Buffers = with_sheet c.args.buffers.now c.args.sheet.now in
    let last = c.place_checked.new in
    let after : Buffers = with_sheet last.buffers last.sheet in
    let from : List ℕ → Desk = λ ms. record { state = blank_state; weights = before.weights; marks = ms; ledger = before.ledger; scratch = before.scratch } in
    let done = subst (λ (ms : List ℕ). Placed F V S (from ms) before.sheet c.place_checked.result after) c.clean_marks.ensures c.place_checked.ensures.placed in
    record {
      check = (c.in_ok-check_place.ensures.check ∙ (λ i. place_check S (needed i) (c.lengths.ensures.weights i) (c.lengths.ensures.marks i) (c.lengths.ensures.ledger i) (c.lengths.ensures.scratch i) (length c.args.sheet.now)));
      done = done;
      lent = (let l = c.place_checked.ensures.lent in record { weights = l.weights; marks = l.marks; ledger = l.ledger; scratch = l.scratch });
      only = λ net answer b other placed. only_placed F V S net answer (start_desk S before) refl before.sheet c.place_checked.result b after other done placed;
    }
