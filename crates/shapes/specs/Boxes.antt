-- The space of boxes: what its lists mean and when they are refused.
use Rattle.std.specs.Prelude.{Bool, false, ◌&&◌, ◌||◌, List, Result, int_lt}
use Rattle.ranges.specs.declared.refusal.Refusal.{Refusal}
use Rattle.ranges.specs.Spaces.{RangeSpace}
use Rattle.shapes.specs.Coordinates.{beyond_limits, between}
use Rattle.shapes.specs.Lists.{ShapeOf, lists_check, lists_space, lists_meaning}
use Rattle.shapes.specs.declared.box_range.BoxPoint.{BoxPoint}
use Rattle.shapes.specs.declared.box_range.BoxRange.{BoxRange}

-- a closed box holds (x, y) if x0 ≤ x ≤ x1 and y0 ≤ y ≤ y1
abbrev pub box_holds : BoxRange → BoxPoint → Bool
box_holds b p = between b.x0 p.x b.x1 && between b.y0 p.y b.y1

abbrev pub point_beyond : BoxPoint → Bool
point_beyond p = beyond_limits p.x || beyond_limits p.y

abbrev pub box_beyond : BoxRange → Bool
box_beyond b = beyond_limits b.x0 || (beyond_limits b.y0 || (beyond_limits b.x1 || beyond_limits b.y1))

abbrev pub box_reversed : BoxRange → Bool
box_reversed b = int_lt b.x1 b.x0 || int_lt b.y1 b.y0

-- points of the plane have no order to keep
abbrev pub box_shape : ShapeOf BoxPoint BoxRange
box_shape = record { holds = box_holds; point_beyond = point_beyond; range_beyond = box_beyond; reversed = box_reversed; disordered = λ _. false }

abbrev pub box_check : List BoxPoint → List BoxRange → Result Unit Refusal
box_check ps bs = lists_check box_shape ps bs

abbrev pub box_space : List BoxPoint → List BoxRange → RangeSpace
box_space ps bs = lists_space box_shape ps bs

abbrev pub box_meaning : List BoxPoint → List BoxRange → RangeSpace
box_meaning ps bs = lists_meaning box_shape ps bs
