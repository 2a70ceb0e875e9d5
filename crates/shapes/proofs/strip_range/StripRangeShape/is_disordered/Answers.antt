use Rattle.std.proofs.Common.{rules}
use Rattle.std.proofs.lemmas.Fn.{always_returns_same}
use Rattle.shapes.proofs.Orders.{sorted_answer}
use Rattle.shapes.proofs.strip_range.StripRangeShape.is_disordered.Goals as goal

pub returns : goal.returns
returns c = sorted_answer c.args.points.now _ (c.is_sorted_by_key.ensures.cases (λ p. p.x) (always_returns_same _ _ _ (λ a r q k. search rules)))
