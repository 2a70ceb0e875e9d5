-- Which bytes are a sheet, and what a sheet says.
use Rattle.std.specs.Prelude.{ℕ, ◌+◌, ◌-◌, ◌*◌, ◌/◌, ◌%◌, Bool, cond, not, ◌&&◌, ◌||◌, List, length, take, drop, Ok, Err, Result, ◌==◌, nat_le, nat_lt}
use Rattle.ranges.specs.declared.number.RangeNumber.{RangeNumber}
use Rattle.ranges.specs.declared.refusal.Refusal.{Refusal}
use Rattle.ranges.specs.declared.refusal.Refusal.TheVariants.{BadSheet}
use Rattle.ranges.specs.Weights.{tabulated}
use Rattle.guesses.specs.declared.book.GuessLine.{GuessLine}
use Rattle.sheets.specs.declared.sheet.Sheet.{Sheet}
use Rattle.sheets.specs.declared.trailer.Trailer.{Trailer}
use Rattle.sheets.specs.Bytes.{get16}
pub use Rattle.sheets.specs.Lines.{all_below, verdict_stands, verdicts_stand, verdict_of, line_in, range_in, point_in, if_below}
use Rattle.sheets.specs.Trailers.{trailer_at, no_ledger}

-- the bytes from i up to j
abbrev pub part : List ℕ → ℕ → ℕ → List ℕ
part s i j = take (j - i) (drop i s)

abbrev pub trailer_place : List ℕ → ℕ
trailer_place s = length s - 16

abbrev pub trailer_of : List ℕ → Trailer
trailer_of s = trailer_at s (trailer_place s)

abbrev pub book_part : List ℕ → List ℕ
book_part s = part s (trailer_of s).book (trailer_of s).points

abbrev pub points_part : List ℕ → List ℕ
points_part s = part s (trailer_of s).points (trailer_place s)

-- where the lines of the last ledger begin; without a ledger there are none
abbrev pub lines_place : Trailer → ℕ
lines_place t = cond (t.ledger == no_ledger) 0 (t.ledger + 4)

abbrev pub ledger_part : List ℕ → List ℕ
ledger_part s = part s (lines_place (trailer_of s)) (trailer_of s).book

-- there is a trailer, and the book begins no later than the points, and they no later than the trailer
abbrev pub in_order : Trailer → ℕ → Bool
in_order t end = nat_le t.book t.points && nat_le t.points end

abbrev pub places_stand : List ℕ → Bool
places_stand s = nat_le 16 (length s) && in_order (trailer_of s) (trailer_place s)

-- the book has whole lines, at most 24, each with a verdict
abbrev pub book_stands : List ℕ → Bool
book_stands b = length b % 8 == 0 && (nat_le (length b / 8) 24 && verdicts_stand b)

-- point i lies below n and above the point before it
abbrev pub point_stands : List ℕ → ℕ → ℕ → Bool
point_stands p n i = nat_lt (get16 p (2 * i)) n && (i == 0 || nat_lt (get16 p (2 * (i - 1))) (get16 p (2 * i)))

abbrev pub points_rise : List ℕ → ℕ → Bool
points_rise p n = all_below (point_stands p n) (length p / 2)

-- the points are whole numbers, ascend strictly and lie below n, and n keeps its limit
abbrev pub points_stand : List ℕ → ℕ → Bool
points_stand p n = length p % 2 == 0 && (nat_le n 4096 && points_rise p n)

-- without a ledger, the floor and the book's place are 0
abbrev pub bare_stands : Trailer → Bool
bare_stands t = t.floor == 0 && t.book == 0

-- with one, its guess is the floor and not 0, and its section ends where the book begins
abbrev pub ledger_stands : List ℕ → Trailer → Bool
ledger_stands s t =
    (get16 s t.ledger == t.floor)
    && (not (t.floor == 0) && t.ledger + 4 + 2 * get16 s (t.ledger + 2) == t.book)

abbrev pub ledgers_stand : List ℕ → Trailer → Bool
ledgers_stand s t = cond (t.ledger == no_ledger) (bare_stands t) (ledger_stands s t)

-- a sheet is accepted exactly if all of these hold
abbrev pub accepted : List ℕ → Bool
accepted s =
    places_stand s
    && (book_stands (book_part s) && (points_stand (points_part s) (trailer_of s).n && ledgers_stand s (trailer_of s)))

-- the parts of a sheet, as bytes
pub record Content : Type 0 where
  pub book : List ℕ
  pub points : List ℕ
  pub ledger : List ℕ
  pub n : ℕ
  pub floor : ℕ

abbrev pub content : List ℕ → Content
content s =
    record {
      book = book_part s;
      points = points_part s;
      ledger = ledger_part s;
      n = (trailer_of s).n;
      floor = (trailer_of s).floor;
    }

abbrev pub read_sheet : List ℕ → Result Content Refusal
read_sheet s = cond (accepted s) (Ok (content s)) (Err BadSheet)

-- what the borrowed parts hold
abbrev pub held : Sheet → Content
held p = record { book = p.book.now; points = p.points.now; ledger = p.ledger.now; n = p.n; floor = p.floor }

abbrev pub contents : Result Sheet Refusal → Result Content Refusal
contents (Ok p) = Ok (held p)
contents (Err e) = Err e

-- what a sheet says: its guesses, points and last ledger, n and the floor
pub record Told : Type 0 where
  pub guesses : List GuessLine
  pub points : List ℕ
  pub ledger : List RangeNumber
  pub n : ℕ
  pub floor : ℕ

abbrev pub told_by : Content → Told
told_by p =
    record {
      guesses = tabulated (line_in p.book) (length p.book / 8);
      points = tabulated (λ i. get16 p.points (2 * i)) (length p.points / 2);
      ledger = tabulated (range_in p.ledger) (length p.ledger / 2);
      n = p.n;
      floor = p.floor;
    }

abbrev pub told : Result Content Refusal → Result Told Refusal
told (Ok p) = Ok (told_by p)
told (Err e) = Err e
