use Rattle.std.proofs.Common.{ap, ◌∙◌, rules, tests}
use Rattle.std.proofs.lemmas.Iterator.{YieldsList-from_range, YieldsList-from_map}
use Rattle.std.proofs.lemmas.Iterator.Consumers.{YieldsList-from_filter, YieldsList-at}
use Rattle.ranges.specs.Weights.{marked, missed, range_weight, range_of}
use Rattle.ranges.proofs.Picks.{picked, least_in_numbers, range_numbered}
use Rattle.nets.proofs.lightest.lightest_missed.Goals as goal

pub returns : goal.returns
returns g c =
    let S = g.S.Space.meaning c.args.weights.now.space.now in
    let t = missed S (marked c.args.marks.now) in
    let w = range_weight S c.args.weights.now.each.now in
    ap range_of
    (picked _ _ (λ j. w j.0) (λ x k q called. search (rules, tests)) _ c.min_by_key.ensures.ran
    (YieldsList-from_filter _ (λ j. t j.0)
    (YieldsList-at c.filter.ensures.source (YieldsList-from_map _ (λ k. record { 0 = k }) (YieldsList-at c.map.ensures.source (YieldsList-from_range 0 S.ranges S.ranges (search rules) (search rules))) c.map.ensures.closure (λ x r q k. search rules)))
    c.filter.ensures.closure (λ x r q k. search (rules, tests)))
    ∙ least_in_numbers (λ k. record { 0 = k }) (λ j. t j.0) (λ j. w j.0) S.ranges)
    ∙ range_numbered _
