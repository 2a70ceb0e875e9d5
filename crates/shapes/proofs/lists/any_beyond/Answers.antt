use Rattle.std.proofs.Common.{rules, ◌≡◌, sym, ap, ◌∙◌, ◌||◌}
use Rattle.std.specs.List.{list_any}
use Rattle.std.proofs.lemmas.Iterator.{YieldsList-from_slice}
use Rattle.std.proofs.lemmas.Iterator.Search.{any_from_yields_List}
use Rattle.shapes.proofs.lists.any_beyond.Goals as goal

pub returns-else-any : goal.returns-else-any
returns-else-any g c =
    let none : c.any.result ≡ list_any g.R.Shape.shape.point_beyond c.args.points.now =
    any_from_yields_List _ _ _ _ c.any.ensures.ran (YieldsList-from_slice c.args.points.now cc) (λ x b q k. search rules) in
    let some : c.any-else-any.result ≡ list_any g.R.Shape.shape.range_beyond c.args.ranges.now =
    any_from_yields_List _ _ _ _ c.any-else-any.ensures.ran (YieldsList-from_slice c.args.ranges.now cc) (λ x b q k. search rules) in
    some ∙ ap (λ b. b || list_any g.R.Shape.shape.range_beyond c.args.ranges.now) (sym c.if-any.false ∙ none)
