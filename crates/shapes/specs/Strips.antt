-- The space of strips: what its lists mean, when they are refused, and its order.
use Rattle.std.specs.Prelude.{ℕ, ◌+◌, ◌-◌, Bool, ◌||◌, List, length, count_by, get_or, ℤ, pos, Result, int_le, int_lt}
use Rattle.std.specs.List.{slice_get}
use Rattle.std.specs.Option.{option_map_or}
use Rattle.ranges.specs.declared.refusal.Refusal.{Refusal}
use Rattle.ranges.specs.Below.{any_below}
use Rattle.ranges.specs.Spaces.{RangeSpace}
use Rattle.shapes.specs.Coordinates.{beyond_limits, between}
use Rattle.shapes.specs.Lists.{ShapeOf, lists_check, lists_space, lists_meaning}
use Rattle.shapes.specs.declared.strip_range.StripPoint.{StripPoint}
use Rattle.shapes.specs.declared.strip_range.StripRange.{StripRange}

-- a closed strip holds x if A ≤ x ≤ B
abbrev pub strip_holds : StripRange → StripPoint → Bool
strip_holds s p = between s.a p.x s.b

abbrev pub strip_point_beyond : StripPoint → Bool
strip_point_beyond p = beyond_limits p.x

abbrev pub strip_beyond : StripRange → Bool
strip_beyond s = beyond_limits s.a || beyond_limits s.b

abbrev pub strip_reversed : StripRange → Bool
strip_reversed s = int_lt s.b s.a

abbrev pub no_strip_point : StripPoint
no_strip_point = record { x = pos 0 }

abbrev pub x_at : List StripPoint → ℕ → ℤ
x_at ps i = (get_or ps i no_strip_point).x

-- some point lies before the one that it follows
abbrev pub falls : List StripPoint → ℕ → Bool
falls ps i = int_lt (x_at ps (i + 1)) (x_at ps i)

abbrev pub descends : List StripPoint → Bool
descends ps = any_below (falls ps) (length ps - 1)

abbrev pub strip_shape : ShapeOf StripPoint StripRange
strip_shape = record { holds = strip_holds; point_beyond = strip_point_beyond; range_beyond = strip_beyond; reversed = strip_reversed; disordered = descends }

abbrev pub strip_check : List StripPoint → List StripRange → Result Unit Refusal
strip_check ps ss = lists_check strip_shape ps ss

abbrev pub strip_space : List StripPoint → List StripRange → RangeSpace
strip_space ps ss = lists_space strip_shape ps ss

abbrev pub strip_meaning : List StripPoint → List StripRange → RangeSpace
strip_meaning ps ss = lists_meaning strip_shape ps ss

-- first counts the points below A, end those up to B; both are 0 for a number beyond the strips
abbrev pub first_point : List StripPoint → List StripRange → ℕ → ℕ
first_point ps ss j = option_map_or (λ s. count_by (λ p. int_lt p.x s.a) ps) (slice_get ss j) 0

abbrev pub end_point : List StripPoint → List StripRange → ℕ → ℕ
end_point ps ss j = option_map_or (λ s. count_by (λ p. int_le p.x s.b) ps) (slice_get ss j) 0
