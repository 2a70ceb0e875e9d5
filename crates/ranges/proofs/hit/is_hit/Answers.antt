use Rattle.std.proofs.Common.{◌≡◌, true, false, ◌&&◌, rules, tests}
use Rattle.std.proofs.lemmas.Iterator.{cases_from_any, YieldsList-from_range, YieldsList-from_map}
use Rattle.ranges.proofs.Chains.{any_in_numbers}
use Rattle.ranges.proofs.hit.is_hit.Goals as goal

pub returns : goal.returns
returns g c =
    let P = g.P.PointSet.members c.args.set.now in
    let S = g.S.Space.meaning c.args.s.now in
    any_in_numbers (λ k. record { 0 = k }) (λ p. P p.0 && S.holds c.args.j.0 p.0) S.points _
    (cases_from_any _ _ _ (λ p. (P p.0 && S.holds c.args.j.0 p.0) ≡ true) (λ p. (P p.0 && S.holds c.args.j.0 p.0) ≡ false) c.any.ensures.ran
    (YieldsList-from_map _ (λ k. record { 0 = k }) (YieldsList-from_range 0 S.points S.points (search rules) (search rules)) (search rules) (λ x r q k. search rules))
    (λ x q k. search (rules, tests)) (λ x q k. search (rules, tests)))
