-- The space of two lists that are short enough keeps the limits of every space.
use Rattle.std.proofs.Common.{◌≡◌, ◌≤◌, Bool, true, List, length, Option, Some, None, refl, rules}
use Rattle.std.specs.List.{slice_get}
use Rattle.std.proofs.lemmas.Option.{slice_get_within}
use Rattle.ranges.specs.Spaces.{Within}
use Rattle.shapes.specs.Lists.{ShapeOf, both_held, lists_space}

both_there : {P R : Type 0} (holds : R → P → Bool) (r : Option R) (p : Option P) → both_held holds r p ≡ true → ((x : R) × (r ≡ Some x)) × ((y : P) × (p ≡ Some y))
both_there holds (Some x) (Some y) held = ((x, refl), (y, refl))
both_there holds (Some x) None held = search rules
both_there holds None p held = search rules

-- nothing is held beyond either list
pub lists_within : {P R : Type 0} (shape : ShapeOf P R) (ps : List P) (rs : List R) → length ps ≤ 4096 → length rs ≤ 16384 → Within (lists_space shape ps rs)
lists_within shape ps rs few_points few_ranges = record {
  few_points = few_points;
  few_ranges = few_ranges;
  inside = λ j p held.
      let there = both_there shape.holds (slice_get rs j) (slice_get ps p) held in
      (slice_get_within rs j there.0.0 there.0.1, slice_get_within ps p there.1.0 there.1.1);
}
