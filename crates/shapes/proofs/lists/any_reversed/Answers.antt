use Rattle.std.proofs.Common.{rules, ◌≡◌, sym, ap, ◌∙◌, ◌||◌}
use Rattle.std.specs.List.{list_any}
use Rattle.std.proofs.lemmas.Iterator.{YieldsList-from_slice}
use Rattle.std.proofs.lemmas.Iterator.Search.{any_from_yields_List}
use Rattle.shapes.proofs.lists.any_reversed.Goals as goal

pub returns-else-any : goal.returns-else-any
returns-else-any g c =
    let none : c.any.result ≡ list_any g.R.Shape.shape.reversed c.args.ranges.now =
    any_from_yields_List _ _ _ _ c.any.ensures.ran (YieldsList-from_slice c.args.ranges.now cc) (λ x b q k. search rules) in
    c.is_disordered.ensures ∙ ap (λ b. b || g.R.Shape.shape.disordered c.args.points.now) (sym c.if-any.false ∙ none)
