use Rattle.std.proofs.Common.{◌≡◌, ◌+◌, ◌<◌, cond, length, get_or, set, sym, ap, ◌∙◌, arith}
use Rattle.std.proofs.lemmas.List.FromFn.{fill_by_all}
use Rattle.std.proofs.lemmas.List.Edits.{fill_by_more}
use Rattle.ranges.specs.Below.{count_below}
use Rattle.ranges.specs.Weights.{chosen}
use Rattle.ranges.proofs.Sums.{count_le, count_here, count_past}
use Rattle.ranges.proofs.Marks.{marks_chosen}
use Rattle.nets.specs.Sweeps.{carried, full, sweep_net}
use Rattle.nets.specs.SweepsLemmas.{sum_fits, turn_marked, turn_passed}
use Rattle.nets.proofs.sweep.sweep_marks.Goals as goal
use Rattle.nets.proofs.sweep.sweep_marks.Goals.{then-full, else-full}

pub overflow_add-sum : goal.overflow_add-sum
overflow_add-sum g c =
    let w = c.args.weights.now in
    let i = c.loop-p.p in
    record { fits = omega (arith, sum_fits c.args.k w.each.now i c.loop-p.sum c.loop-p.invariant.0 (omega (arith, c.requires)) (omega (arith, w.added, w.small)), ap (λ ws. get_or ws i 0) c.each-each.ensures) }

pub overflow_add-count : goal.overflow_add-count
overflow_add-count g c =
    let w = c.args.weights.now in
    omega (arith, count_le (full c.args.k w.each.now) c.loop-p.p, c.loop-p.invariant.1, (g.met.S.Space.within w.space.now).few_points, w.long, c.requires)

pub returns : goal.returns
returns g c =
    let k = c.args.k in
    let ws = c.args.weights.now.each.now in
    let end : c.loop-p.p ≡ length ws = omega (arith, c.requires) in
    let marks : c.loop-p.marks ≡ sweep_net k ws = fill_by_all (λ q. cond (full k ws q) 1 0) c.loop-p.marks (length ws) 0 (omega (arith, c.requires)) (λ p b. c.loop-p.invariant.2 p (omega arith)) in
    record { marks = marks; count = c.loop-p.invariant.1 ∙ ap (count_below (full k ws)) end ∙ sym (ap chosen marks ∙ marks_chosen (full k ws) (length ws)) }

pub loop-p-preserved : goal.loop-p-preserved
loop-p-preserved g c =
    let k = c.args.k in
    let ws = c.args.weights.now.each.now in
    let i = c.loop-p.p in
    let weight = ap (λ xs. get_or xs i 0) c.each-each.ensures in
    let l : i < length c.loop-p.marks = omega (arith, c.loop-p-test.true) in
    let turn : (c.if-full.sum ≡ carried k ws (i + 1)) × (c.if-full.count ≡ count_below (full k ws) (i + 1)) × (c.is_heavy-full.result ≡ full k ws i) =
    elim c.if-full.branch [
      | then-full w ↦ (
          let at = turn_marked k ws i c.loop-p.sum c.total.result _ c.loop-p.invariant.0 c.total.ensures weight (sym c.is_heavy-full.ensures ∙ w.if-full.true) in
          (w.sum-is ∙ at.0, omega (arith, w.count-is, c.loop-p.invariant.1, count_here (full k ws) i at.1), w.if-full.true ∙ sym at.1))
      | else-full w ↦ (
          let at = turn_passed k ws i c.loop-p.sum c.total.result _ c.loop-p.invariant.0 c.total.ensures weight (sym c.is_heavy-full.ensures ∙ w.if-full.false) in
          (w.sum-is ∙ at.0, omega (arith, w.count-is, c.loop-p.invariant.1, count_past (full k ws) i at.1), w.if-full.false ∙ sym at.1))
    ] in (
      turn.0,
      turn.1,
      λ p b. ap (λ x. get_or (set c.loop-p.marks i x) p 0) (c.write_mark.ensures ∙ ap (λ b. cond b 1 0) turn.2) ∙ fill_by_more (λ q. cond (full k ws q) 1 0) c.loop-p.marks i 0 l c.loop-p.invariant.2 p b,
    )
