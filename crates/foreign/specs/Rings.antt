-- The space of a ring: points on a circle, and from each a range that may go round the end.
use Rattle.std.specs.Prelude.{ℕ, ◌+◌, ◌-◌, cond, ◌&&◌, nat_le, nat_lt}
use Rattle.ranges.specs.Spaces.{RangeSpace}

-- the steps from point j on to point p, of n points on a circle
abbrev pub steps_on : ℕ → ℕ → ℕ → ℕ
steps_on n j p = cond (nat_le j p) (p - j) (p + n - j)

-- n points and n ranges: range j holds the points at most `reach` steps on from point j
abbrev pub ring_space : ℕ → ℕ → RangeSpace
ring_space n reach = record { points = n; ranges = n; holds = λ j p. nat_lt j n && (nat_lt p n && nat_le (steps_on n j p) reach) }
