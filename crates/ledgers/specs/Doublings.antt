-- Doubling a range's weights, and what a list of doubled ranges leaves.
use Rattle.std.specs.Prelude.{◌≡◌, ℕ, ◌+◌, ◌*◌, ◌^◌, ◌<◌, ◌≤◌, Bool, true, cond, not, ◌&&◌, List, [], ◌∷◌, length, replicate, nat_lt, slice_set}
use Rattle.ranges.specs.Spaces.{RangeSpace}
use Rattle.ranges.specs.Below.{count_below}
use Rattle.ranges.specs.Weights.{weight_at, heavy, capped, tabulated, HitsAll}

-- the weight of each point of range j is doubled
abbrev pub doubled_at : RangeSpace → ℕ → List ℕ → ℕ → ℕ
doubled_at S j ws p = cond (S.holds j p) (2 * weight_at ws p) (weight_at ws p)

abbrev pub doubled : RangeSpace → ℕ → List ℕ → List ℕ
doubled S j ws = tabulated (doubled_at S j ws) (length ws)

-- the same in 64 bits: a weight past them stays at the largest number
abbrev pub capped_at : RangeSpace → ℕ → List ℕ → ℕ → ℕ
capped_at S j ws p = cond (S.holds j p) (capped (2 * weight_at ws p)) (weight_at ws p)

abbrev pub capped_doubled : RangeSpace → ℕ → List ℕ → List ℕ
capped_doubled S j ws = tabulated (capped_at S j ws) (length ws)

-- the weight of each point of a set is doubled
abbrev pub doubled_point_at : (ℕ → Bool) → List ℕ → ℕ → ℕ
doubled_point_at P ws p = cond (P p) (2 * weight_at ws p) (weight_at ws p)

abbrev pub doubled_points : (ℕ → Bool) → List ℕ → List ℕ
doubled_points P ws = tabulated (doubled_point_at P ws) (length ws)

-- the same in 64 bits, of the points below n
abbrev pub capped_point_at : ℕ → (ℕ → Bool) → List ℕ → ℕ → ℕ
capped_point_at n P ws p = cond (nat_lt p n && P p) (capped (2 * weight_at ws p)) (weight_at ws p)

abbrev pub capped_points : ℕ → (ℕ → Bool) → List ℕ → List ℕ
capped_points n P ws = tabulated (capped_point_at n P ws) (length ws)

-- one weight doubled in 64 bits, if there is such a point
abbrev pub weight_doubled : List ℕ → ℕ → List ℕ
weight_doubled ws p = cond (nat_lt p (length ws)) (slice_set ws p (capped (2 * weight_at ws p))) ws

-- every weight 1
abbrev pub ones : ℕ → List ℕ
ones n = replicate n 1

-- a line of a ledger is good if its range exists and is light
abbrev pub good : RangeSpace → ℕ → List ℕ → ℕ → Bool
good S k ws j = nat_lt j S.ranges && not (heavy S k ws j)

-- the ranges of a list, doubled one after the other
abbrev pub doubled_by : RangeSpace → List ℕ → List ℕ → List ℕ
doubled_by S ws [] = ws
doubled_by S ws (j ∷ js) = doubled_by S (doubled S j ws) js

-- every line is good when its turn comes
abbrev pub AllGood : RangeSpace → ℕ → List ℕ → List ℕ → Type 0
AllGood S k ws [] = Unit {0}
AllGood S k ws (j ∷ js) = (good S k ws j ≡ true) × AllGood S k (doubled S j ws) js

-- every set of points that hits all ranges has more than k points
abbrev pub NeedsMore : RangeSpace → ℕ → Type 0
NeedsMore S k = (P : ℕ → Bool) → HitsAll S P → k < count_below P S.points

-- after r doublings of light ranges, the total W is at most n·((2k+1)/2k)^r
abbrev pub Grown : ℕ → ℕ → ℕ → ℕ → Type 0
Grown n k r W = W * (2 * k) ^ r ≤ n * (2 * k + 1) ^ r
