use Rattle.std.proofs.Common.{◌≡◌, true, false, refl, rules, tests}
use Rattle.std.proofs.lemmas.Iterator.{first_from_find, YieldsList-from_range, YieldsList-from_map}
use Rattle.ranges.specs.Weights.{missed}
use Rattle.ranges.proofs.Chains.{first_in_numbers, range_found}
use Rattle.ranges.proofs.hit.lowest_missed.Goals as goal

pub returns : goal.returns
returns g c =
    let S = g.S.Space.meaning c.args.s.now in
    let t = missed S (g.P.PointSet.members c.args.set.now) in
    range_found _ _ (first_in_numbers (λ k. record { 0 = k }) (λ j. t j.0) S.ranges (λ j. j.0) (λ k. refl) _
    (first_from_find _ _ _ (λ j. t j.0 ≡ true) (λ j. t j.0 ≡ false) c.find.ensures.ran
    (YieldsList-from_map _ (λ k. record { 0 = k }) (YieldsList-from_range 0 S.ranges S.ranges (search rules) (search rules)) (search rules) (λ x r q k. search rules))
    (λ x q k. search (rules, tests)) (λ x q k. search (rules, tests))))
