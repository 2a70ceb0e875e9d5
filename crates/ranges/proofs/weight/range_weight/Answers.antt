use Rattle.std.proofs.Common.{◌≡◌, cond, ap, ◌∙◌, arith, rules, tests}
use Rattle.std.proofs.lemmas.Iterator.{YieldsList-from_range, YieldsList-from_map}
use Rattle.std.proofs.lemmas.Iterator.Consumers.{YieldsList-at}
use Rattle.ranges.specs.Weights.{weight_at, share, capped}
use Rattle.ranges.proofs.Chains.{kept_fold, capped_sums, sum_of_numbers}
use Rattle.ranges.proofs.weight.range_weight.Goals as goal

pub returns : goal.returns
returns g c =
    let S = g.S.Space.meaning c.args.s.now in
    let ws = c.args.weights.now in
    kept_fold capped (omega arith) capped_sums _ _ (λ p. share S ws c.args.j.0 p.0) _ c.fold.ensures.ran
    (YieldsList-from_map _ (λ k. record { 0 = k }) (YieldsList-at c.map.ensures.source (YieldsList-from_range 0 S.points S.points (search rules) (search rules))) c.map.ensures.closure (λ x r q k. search rules))
    (λ a b x q few k. search (rules, tests))
    ∙ ap capped (sum_of_numbers (λ k. record { 0 = k }) (λ p. share S ws c.args.j.0 p.0) S.points)
