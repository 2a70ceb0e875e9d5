use Rattle.std.proofs.Common.{◌≡◌, ◌≤◌, ◌%◌, ◌<◌, ◌&&◌, cond, eqb, refl, ◌∙◌, arith, rules, tests}
use Rattle.std.proofs.Math.Nat.{mod-add-mod, mod-eq_of_lt}
use Rattle.std.proofs.lemmas.Iterator.{YieldsList-from_slice, YieldsList-from_range, YieldsList-from_map, YieldsList-from_zip}
use Rattle.std.proofs.lemmas.Iterator.Consumers.{YieldsList-at}
use Rattle.ranges.proofs.Chains.{kept_fold, sum_zipped}
use Rattle.ranges.specs.declared.number.RangeNumber.{RangeNumber}
use Rattle.ranges.proofs.Sums.{count_le}
use Rattle.greedy.specs.Flags.{flagged}
use Rattle.greedy.proofs.greedy.count_gain.Goals as goal

pub returns : goal.returns
returns g c =
    let S = g.S.Space.meaning c.args.s.now in
    let p = c.args.p.0 in
    let few : S.ranges ≤ 65535 = search rules in
    let counted =
    kept_fold (λ n. n % 65536) refl (λ n m. mod-add-mod n 65536 m) _ _ (λ q. cond (eqb q.1 1 && S.holds q.0.0 p) 1 0) _ c.fold.ensures.ran
    (YieldsList-from_zip
    (YieldsList-at c.zip.ensures.first (YieldsList-from_map _ (λ k. record { 0 = k }) (YieldsList-at c.map.ensures.source (YieldsList-from_range 0 S.ranges S.ranges (search rules) (search rules))) c.map.ensures.closure (λ x r q k. search rules)))
    (YieldsList-from_slice c.args.flags.now (search rules)))
    (λ a b x q top k. search (rules, tests)) in
    let all = sum_zipped {X = RangeNumber} (λ k. record { 0 = k }) (λ j b. eqb b 1 && S.holds j.0 p) (λ j. refl) S.ranges c.args.flags.now in
    let most = count_le (λ j. flagged c.args.flags.now j && S.holds j p) S.ranges in
    counted ∙ mod-eq_of_lt (omega (arith, all, few, most)) ∙ all
