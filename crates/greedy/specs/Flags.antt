-- What a call keeps: a flag for each range, and for each point its gain or that it is taken.
use Rattle.std.specs.Prelude.{◌≡◌, ℕ, ◌-◌, ◌<◌, Bool, cond, ◌&&◌, List, ◌++◌, drop, ◌==◌, nat_lt, slice_index}
use Rattle.ranges.specs.Below.{count_below}
use Rattle.ranges.specs.Spaces.{RangeSpace}
use Rattle.ranges.specs.Weights.{tabulated}
use Rattle.greedy.specs.Greedy.{best_below}

-- f over the first n bytes, the others as they were
abbrev pub over : (ℕ → ℕ) → ℕ → List ℕ → List ℕ
over f n xs = tabulated f n ++ drop n xs

abbrev pub bit : Bool → ℕ
bit b = cond b 1 0

-- a range's flag is up: it is heavy and not yet hit
abbrev pub flagged : List ℕ → ℕ → Bool
flagged fs j = slice_index fs j == 1

-- in how many ranges with their flag up a point lies
abbrev pub flag_gain : RangeSpace → List ℕ → ℕ → ℕ
flag_gain S fs p = count_below (λ j. flagged fs j && S.holds j p) S.ranges

-- the point with the largest gain by the flags
abbrev pub flag_best : RangeSpace → List ℕ → ℕ
flag_best S fs = best_below (flag_gain S fs) S.points

-- a flag after point p is marked
abbrev pub lowered : RangeSpace → ℕ → List ℕ → ℕ → ℕ
lowered S p fs j = cond (flagged fs j && S.holds j p) 0 (slice_index fs j)

-- a point's byte says that it is marked
abbrev pub taken : List ℕ → ℕ → Bool
taken ms p = slice_index ms p == 255

-- what a point's byte says of its gain: 255, that there is none; 254, nothing; else it is the gain
abbrev pub Tells : ℕ → ℕ → Type 0
Tells b gain = (b ≡ 255 → gain ≡ 0) × (b < 254 → gain ≡ b)

-- what the bytes say of the gains is so
abbrev pub Known : RangeSpace → List ℕ → List ℕ → Type 0
Known S fs ms = (p : ℕ) → p < S.points → Tells (slice_index ms p) (flag_gain S fs p)

-- a byte after a range that holds its point is hit
abbrev pub one_less : ℕ → ℕ
one_less b = cond (nat_lt b 254) (b - 1) b

-- the byte of point p after range j is hit
abbrev pub less_held : RangeSpace → ℕ → List ℕ → ℕ → ℕ
less_held S j ms p = cond (S.holds j p) (one_less (slice_index ms p)) (slice_index ms p)
