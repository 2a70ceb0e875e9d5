use Rattle.std.proofs.Common.{◌+◌, cond, ◌∙◌, ap, arith, rules}
use Rattle.ranges.specs.Weights.{heavy}
use Rattle.ranges.proofs.Marks.{byte_bit}
use Rattle.ranges.proofs.Sums.{sum_more, count_le}
use Rattle.greedy.specs.Flags.{bit}
use Rattle.greedy.proofs.Overs.{over_step, over_done}
use Rattle.greedy.proofs.greedy.flag_heavy.Goals as goal

pub overflow_add-count : goal.overflow_add-count
overflow_add-count g c =
    let t = heavy (g.S.Space.meaning c.args.weights.now.space.now) c.args.k c.args.weights.now.each.now in
    let here = c.from-count.ensures ∙ byte_bit c.is_heavy-heavy.result ∙ ap bit c.is_heavy-heavy.ensures in
    omega (arith, here, sum_more (λ j. cond (t j) 1 0) c.loop-j.j, count_le t (c.loop-j.j + 1), (g.met.S.Space.within c.args.weights.now.space.now).few_ranges, c.requires, c.loop-j.invariant.1)

pub loop-j-preserved : goal.loop-j-preserved
loop-j-preserved g c =
    let t = heavy (g.S.Space.meaning c.args.weights.now.space.now) c.args.k c.args.weights.now.each.now in
    let more = sum_more (λ j. cond (t j) 1 0) c.loop-j.j in (
      over_step (λ j. bit (t j)) c.args.flags.now _ _ _ c.loop-j.invariant.0 (omega arith) (c.from.ensures ∙ byte_bit c.is_heavy-heavy.result ∙ ap bit c.is_heavy-heavy.ensures),
      omega (arith, c.loop-j.invariant.1, c.from-count.ensures ∙ byte_bit c.is_heavy-heavy.result ∙ ap bit c.is_heavy-heavy.ensures),
    )

pub returns : goal.returns
returns g c =
    let t = heavy (g.S.Space.meaning c.args.weights.now.space.now) c.args.k c.args.weights.now.each.now in
    record {
      flags = over_done (λ j. bit (t j)) c.args.flags.now _ _ _ c.loop-j.invariant.0 (omega (arith, c.requires)) (omega (arith, c.requires));
      count = search rules;
    }
