-- A sheet as a list of bytes: ledger sections, the book, the chosen points, the trailer.
use Rattle.std.specs.Prelude.{ℕ, zero, suc, ◌+◌, ◌*◌, ◌<◌, cond, List, [], ◌∷◌, ◌++◌, length, get_or, slice_index_or}
use Rattle.std.specs.List.{flat_map}
use Rattle.ranges.specs.declared.number.RangeNumber.{RangeNumber}
use Rattle.ranges.specs.Weights.{marked}
use Rattle.guesses.specs.declared.book.GuessLine.{GuessLine}
use Rattle.guesses.specs.declared.book.Verdict.{Verdict}
use Rattle.guesses.specs.declared.book.Verdict.TheVariants.{Open, Hit, RuledOut, GivenUp}
use Rattle.guesses.specs.Books.{no_line}
use Rattle.sheets.specs.declared.trailer.Trailer.{Trailer}
use Rattle.sheets.specs.Bytes.{Fit, bytes16, numbers_bytes}
use Rattle.sheets.specs.Trailers.{trailer_bytes, no_ledger}

-- a ledger section: a guess and its lines
pub record Section : Type 0 where
  pub guess : ℕ
  pub lines : List RangeNumber

abbrev pub range_zero : RangeNumber
range_zero = record { 0 = 0 }

abbrev pub lines_bytes : List RangeNumber → List ℕ
lines_bytes ls = flat_map (λ r. bytes16 r.0) ls

abbrev pub section_bytes : ℕ → List RangeNumber → List ℕ
section_bytes k ls = bytes16 k ++ (bytes16 (length ls) ++ lines_bytes ls)

abbrev pub section_length : List RangeNumber → ℕ
section_length ls = 4 + 2 * length ls

abbrev pub code : Verdict → ℕ
code Open = 0
code (Hit p) = 1
code RuledOut = 2
code GivenUp = 3

-- the points of a hit, 0 of any other
abbrev pub hit_points : Verdict → ℕ
hit_points Open = 0
hit_points (Hit p) = p
hit_points RuledOut = 0
hit_points GivenUp = 0

abbrev pub line_bytes : GuessLine → List ℕ
line_bytes l = bytes16 l.k ++ (bytes16 l.doublings ++ (bytes16 (code l.verdict) ++ bytes16 (hit_points l.verdict)))

abbrev pub book_bytes : List GuessLine → List ℕ
book_bytes ls = flat_map line_bytes ls

-- the point p, if it is marked
abbrev pub chosen_at : List ℕ → ℕ → List ℕ
chosen_at ms p = cond (marked ms p) (p ∷ []) []

-- the marked points below n, ascending
abbrev pub chosen_below : List ℕ → ℕ → List ℕ
chosen_below ms zero = []
chosen_below ms (suc p) = chosen_below ms p ++ chosen_at ms p

abbrev pub chosen_points : List ℕ → List ℕ
chosen_points ms = chosen_below ms (length ms)

abbrev pub LinesFit : List RangeNumber → ℕ → Type 0
LinesFit ls n = (i : ℕ) → i < n → Fit (get_or ls i range_zero).0

pub record LineFits (l : GuessLine) : Type 0 where
  pub guess : Fit l.k
  pub doublings : Fit l.doublings
  pub points : Fit (hit_points l.verdict)

abbrev pub BookFits : List GuessLine → ℕ → Type 0
BookFits ls n = (i : ℕ) → i < n → LineFits (slice_index_or ls i no_line)

-- the ledger sections, the latest first, as they stand in a sheet: the latest last
abbrev pub ledger_bytes : List Section → List ℕ
ledger_bytes [] = []
ledger_bytes (s ∷ earlier) = ledger_bytes earlier ++ section_bytes s.guess s.lines

-- where the last section begins
abbrev pub last_place : List Section → ℕ
last_place [] = no_ledger
last_place (s ∷ earlier) = length (ledger_bytes earlier)

abbrev pub last_guess : List Section → ℕ
last_guess [] = 0
last_guess (s ∷ earlier) = s.guess

abbrev pub last_lines : List Section → List RangeNumber
last_lines [] = []
last_lines (s ∷ earlier) = s.lines

abbrev pub sheet_trailer : List Section → List GuessLine → ℕ → List ℕ → Trailer
sheet_trailer ss ls floor ms =
    record {
      book = length (ledger_bytes ss);
      points = length (ledger_bytes ss) + 8 * length ls;
      ledger = last_place ss;
      n = length ms;
      floor = floor;
    }

-- a whole sheet: the sections, the book, the chosen points, the trailer
abbrev pub sheet_bytes : List Section → List GuessLine → ℕ → List ℕ → List ℕ
sheet_bytes ss ls floor ms =
    ledger_bytes ss ++ (book_bytes ls ++ (numbers_bytes (chosen_points ms) ++ trailer_bytes (sheet_trailer ss ls floor ms)))
