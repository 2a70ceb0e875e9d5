use Rattle.std.proofs.Common.{ap, ◌∙◌, arith, rules}
use Rattle.std.proofs.lemmas.Iterator.{YieldsList-from_slice}
use Rattle.ranges.specs.Weights.{capped}
use Rattle.ranges.proofs.Chains.{kept_fold, capped_sums, sum_by_places}
use Rattle.ranges.proofs.weight.total_weight.Goals as goal

pub returns : goal.returns
returns c =
    kept_fold capped (omega arith) capped_sums _ _ (λ w. w) _ c.fold.ensures.ran (YieldsList-from_slice c.args.weights.now cc) (λ a b x q few k. search rules)
    ∙ ap capped (sum_by_places c.args.weights.now)
