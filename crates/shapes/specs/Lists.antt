-- A space of two lent lists, points and ranges of one shape: what it means and when it is refused.
use Rattle.std.specs.Prelude.{Bool, false, cond, ◌||◌, List, length, Some, None, is_ok, Ok, Option, Result, nat_lt}
use Rattle.std.specs.List.{list_any, slice_get}
use Rattle.ranges.specs.declared.refusal.Refusal.{Refusal}
use Rattle.ranges.specs.declared.refusal.Refusal.TheVariants.{CountAboveLimit, CoordinateBeyondLimits, Reversed}
use Rattle.ranges.specs.Refusals.{unless}
use Rattle.ranges.specs.Spaces.{RangeSpace, empty_space}

-- what a shape says of its points and ranges
pub record ShapeOf (P R : Type 0) : Type 0 where
  pub holds : R → P → Bool
  pub point_beyond : P → Bool
  pub range_beyond : R → Bool
  pub reversed : R → Bool
  pub disordered : List P → Bool

-- each cause over everything, in number order
abbrev pub lists_check : {P R : Type 0} → ShapeOf P R → List P → List R → Result Unit Refusal
lists_check shape ps rs =
    unless (nat_lt 4096 (length ps) || nat_lt 16384 (length rs)) CountAboveLimit
    (unless (list_any shape.point_beyond ps || list_any shape.range_beyond rs) CoordinateBeyondLimits
    (unless (list_any shape.reversed rs || shape.disordered ps) Reversed (Ok tt)))

-- whether a range holds a point, if there are both
abbrev pub both_held : {P R : Type 0} → (R → P → Bool) → Option R → Option P → Bool
both_held holds None p = false
both_held holds (Some r) None = false
both_held holds (Some r) (Some p) = holds r p

-- the space of two lists; nothing beyond a list is held
abbrev pub lists_space : {P R : Type 0} → ShapeOf P R → List P → List R → RangeSpace
lists_space shape ps rs = record { points = length ps; ranges = length rs; holds = λ j p. both_held shape.holds (slice_get rs j) (slice_get ps p) }

-- refused lists mean the space without points and ranges
abbrev pub lists_meaning : {P R : Type 0} → ShapeOf P R → List P → List R → RangeSpace
lists_meaning shape ps rs = cond (is_ok (lists_check shape ps rs)) (lists_space shape ps rs) empty_space
