-- Lines of a book and of a ledger, and points, as they lie in bytes.
use Rattle.std.specs.Prelude.{ℕ, zero, suc, ◌+◌, ◌*◌, ◌/◌, Bool, true, cond, ◌&&◌, List, length, ◌==◌, nat_le, nat_lt, ◌-◌, ◌||◌, [], slice_index_or, Some, None, Option}
use Rattle.ranges.specs.declared.number.PointNumber.{PointNumber}
use Rattle.ranges.specs.declared.number.RangeNumber.{RangeNumber}
use Rattle.guesses.specs.declared.book.GuessLine.{GuessLine}
use Rattle.guesses.specs.declared.book.Verdict.{Verdict}
use Rattle.guesses.specs.declared.book.Verdict.TheVariants.{Open, Hit, RuledOut, GivenUp}
use Rattle.sheets.specs.Bytes.{get16}

-- whether every number below n passes the test
abbrev pub all_below : (ℕ → Bool) → ℕ → Bool
all_below t zero = true
all_below t (suc n) = t n && all_below t n

-- the verdict of line i is from 0 to 3
abbrev pub verdict_stands : List ℕ → ℕ → Bool
verdict_stands b i = nat_le (get16 b (8 * i + 4)) 3

abbrev pub verdicts_stand : List ℕ → Bool
verdicts_stand b = all_below (verdict_stands b) (length b / 8)

abbrev pub verdict_of : ℕ → ℕ → Verdict
verdict_of code points = cond (code == 0) Open (cond (code == 1) (Hit points) (cond (code == 2) RuledOut GivenUp))

-- line i of a book, of a ledger, and point i
abbrev pub line_in : List ℕ → ℕ → GuessLine
line_in b i =
    record {
      k = get16 b (8 * i);
      doublings = get16 b (8 * i + 2);
      verdict = verdict_of (get16 b (8 * i + 4)) (get16 b (8 * i + 6));
    }

abbrev pub range_in : List ℕ → ℕ → RangeNumber
range_in l i = record { 0 = get16 l (2 * i) }

abbrev pub point_in : List ℕ → ℕ → PointNumber
point_in p i = record { 0 = get16 p (2 * i) }

-- the one of number i, if there are more than i
abbrev pub if_below : {A : Type 0} → ℕ → ℕ → A → Option A
if_below i n x = cond (nat_lt i n) (Some x) None

-- the number i of these, in two bytes each, is the first or lies above the one before it
abbrev pub ascends_at : List (List ℕ) → ℕ → Bool
ascends_at ps i = i == 0 || nat_lt (get16 (slice_index_or ps (i - 1) []) 0) (get16 (slice_index_or ps i []) 0)

-- it lies below n too
abbrev pub stands_at : List (List ℕ) → ℕ → ℕ → Bool
stands_at ps n i = nat_lt (get16 (slice_index_or ps i []) 0) n && ascends_at ps i

-- it is the first, or lies below n and above the one before it
abbrev pub rises_at : List (List ℕ) → ℕ → ℕ → Bool
rises_at ps n i =
    i == 0
    || (nat_lt (get16 (slice_index_or ps i []) 0) n && nat_lt (get16 (slice_index_or ps (i - 1) []) 0) (get16 (slice_index_or ps i []) 0))
