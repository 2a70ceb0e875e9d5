use Rattle.std.proofs.Common.{sym, refl, ◌∙◌, rules}
use Rattle.orders.proofs.cases.worked_cases.Goals as goal

pub returns : goal.returns
returns c = record {
  count = search rules;
  cases = record {
    limits = c.worked_limits.ensures.worked;
    corner = refl;
    first_sweep = refl;
    first_miss = (refl, refl);
  };
  determined = record {
    sweep = λ S k ws ms ms' p q. p.0 ∙ sym q.0;
    greedy = λ S k ws ms ms' p q. p ∙ sym q;
    lowest = λ S ms ws o o' p q. p ∙ sym q;
    lightest = λ S ms ws o o' p q. p ∙ sym q;
  };
}
