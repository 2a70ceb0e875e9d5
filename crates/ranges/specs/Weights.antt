-- Weights, heavy ranges and hits.
use Rattle.std.specs.Prelude.{◌≡◌, ℕ, ◌*◌, ◌^◌, ◌<◌, min, Bool, true, cond, not, ◌&&◌, List, map, length, Some, None, Ok, Option, Result, ◌==◌, nat_lt, slice_index}
use Rattle.std.specs.List.{range_with_len}
use Rattle.ranges.specs.declared.number.RangeNumber.{RangeNumber}
use Rattle.ranges.specs.declared.refusal.Refusal.{Refusal}
use Rattle.ranges.specs.declared.refusal.Refusal.TheVariants.{WrongLength, WrongTotal}
use Rattle.ranges.specs.Refusals.{unless}
use Rattle.ranges.specs.Below.{sum_below, count_below, any_below, least_below}
use Rattle.ranges.specs.Spaces.{RangeSpace}

-- the weight of a point
abbrev pub weight_at : List ℕ → ℕ → ℕ
weight_at ws p = slice_index ws p

-- W: the total of all weights
abbrev pub total : List ℕ → ℕ
total ws = sum_below (weight_at ws) (length ws)

-- the total over a set of points below n; a set is a test
abbrev pub set_weight : ℕ → List ℕ → (ℕ → Bool) → ℕ
set_weight n ws P = sum_below (λ p. cond (P p) (weight_at ws p) 0) n

-- what point p adds to w(R) of range j
abbrev pub share : RangeSpace → List ℕ → ℕ → ℕ → ℕ
share S ws j p = cond (S.holds j p) (weight_at ws p) 0

-- w(R) of range j
abbrev pub range_weight : RangeSpace → List ℕ → ℕ → ℕ
range_weight S ws j = set_weight S.points ws (S.holds j)

-- heavy: 2·k·w(R) > W; light where not
abbrev pub outweighs : ℕ → ℕ → ℕ → Bool
outweighs k w W = nat_lt W (2 * k * w)

abbrev pub heavy : RangeSpace → ℕ → List ℕ → ℕ → Bool
heavy S k ws j = outweighs k (range_weight S ws j) (total ws)

-- the check of weights by themselves: one for each point, and a total of at most 2^49
abbrev pub weights_check : RangeSpace → List ℕ → Result Unit Refusal
weights_check S ws =
    unless (not (length ws == S.points)) WrongLength
    (unless (nat_lt (2 ^ 49) (total ws)) WrongTotal (Ok tt))

-- a point is marked if its byte is 1
abbrev pub marked : List ℕ → ℕ → Bool
marked ms p = slice_index ms p == 1

-- how many points are marked
abbrev pub chosen : List ℕ → ℕ
chosen ms = count_below (marked ms) (length ms)

-- a set hits a range if the range holds a point of the set
abbrev pub Hits : RangeSpace → (ℕ → Bool) → ℕ → Type 0
Hits S P j = (p : ℕ) × (P p ≡ true) × (S.holds j p ≡ true)

abbrev pub HitsAll : RangeSpace → (ℕ → Bool) → Type 0
HitsAll S P = (j : ℕ) → j < S.ranges → Hits S P j

-- the same as a test
abbrev pub hits_at : RangeSpace → (ℕ → Bool) → ℕ → ℕ → Bool
hits_at S P j p = P p && S.holds j p

abbrev pub hit : RangeSpace → (ℕ → Bool) → ℕ → Bool
hit S P j = any_below (hits_at S P j) S.points

abbrev pub missed : RangeSpace → (ℕ → Bool) → ℕ → Bool
missed S P j = not (hit S P j)

-- the missed range with the lowest number
abbrev pub lowest_missed : RangeSpace → (ℕ → Bool) → Option ℕ
lowest_missed S P = least_below (missed S P) S.ranges

abbrev pub range_of : Option RangeNumber → Option ℕ
range_of None = None
range_of (Some j) = Some j.0

-- the largest number of 64 bits, where a sum of weights stays
abbrev pub capped : ℕ → ℕ
capped x = min x 18446744073709551615

-- the list of f 0, f 1, .. below n
abbrev pub tabulated : {A : Type 0} → (ℕ → A) → ℕ → List A
tabulated f n = map f (range_with_len 0 n)

-- marks from a test: 1 where it passes, else 0
abbrev pub marks_of : (ℕ → Bool) → ℕ → List ℕ
marks_of t n = tabulated (λ p. cond (t p) 1 0) n
