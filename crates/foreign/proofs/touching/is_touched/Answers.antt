use Rattle.std.proofs.Common.{◌≡◌, true, false, ap, rules, tests}
use Rattle.std.proofs.lemmas.Iterator.{cases_from_any, YieldsList-from_range, YieldsList-from_map}
use Rattle.ranges.proofs.Chains.{any_in_numbers}
use Rattle.foreign.specs.Touched.{touched_by}
use Rattle.foreign.proofs.touching.is_touched.Goals as goal

pub returns : goal.returns
returns g c =
    let w = c.args.weights.now in
    let S = g.S.Space.meaning w.space.now in
    let t = touched_by S c.args.k w.each.now c.args.p.0 in
    let e = ap g.S.Space.meaning c.space-s.ensures in
    any_in_numbers (λ k. record { 0 = k }) (λ j. t j.0) S.ranges _
    (cases_from_any _ _ _ (λ j. t j.0 ≡ true) (λ j. t j.0 ≡ false) c.any.ensures.ran
    (YieldsList-from_map _ (λ k. record { 0 = k }) (YieldsList-from_range 0 S.ranges S.ranges (search rules) (search rules)) (search rules) (λ x r q k. search rules))
    (λ x q k. search (rules, tests)) (λ x q k. search (rules, tests)))
