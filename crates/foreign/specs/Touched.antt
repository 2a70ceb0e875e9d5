-- The net of all points that lie in a heavy range.
use Rattle.std.specs.Prelude.{◌≡◌, ℕ, Bool, ◌&&◌, List}
use Rattle.ranges.specs.Below.{any_below}
use Rattle.ranges.specs.Spaces.{RangeSpace}
use Rattle.ranges.specs.Weights.{heavy, marks_of}
use Rattle.nets.specs.Finders.{FinderMeaning}

-- range j is heavy and holds point p
abbrev pub touched_by : RangeSpace → ℕ → List ℕ → ℕ → ℕ → Bool
touched_by S k ws p j = S.holds j p && heavy S k ws j

-- point p lies in a heavy range
abbrev pub touched : RangeSpace → ℕ → List ℕ → ℕ → Bool
touched S k ws p = any_below (touched_by S k ws p) S.ranges

-- touching: just the points that lie in a heavy range, at most all of them, and no scratch
abbrev pub touching_finder : FinderMeaning
touching_finder = record {
  bound = λ n m k. n;
  need = λ n m. 0;
  nets = λ S k ws ms. ms ≡ marks_of (touched S k ws) S.points;
}
