-- What the writer's calls do, and what is written after them.
use Rattle.std.specs.Prelude.{◌≡◌, ℕ, ◌+◌, ◌*◌, ◌<◌, ◌≤◌, min, Bool, cond, ◌||◌, List, [], ◌∷◌, ◌++◌, length, take, drop, replicate, Ok, Err, Result, ◌==◌, nat_lt}
use Rattle.ranges.specs.declared.number.RangeNumber.{RangeNumber}
use Rattle.ranges.specs.declared.refusal.Refusal.{Refusal}
use Rattle.ranges.specs.declared.refusal.Refusal.TheVariants.{WrongLength, GuessOutOfRange, LedgerLength, ShortBuffer, BadSheet}
use Rattle.ranges.specs.Refusals.{unless}
use Rattle.guesses.specs.declared.book.GuessLine.{GuessLine}
use Rattle.sheets.specs.declared.writer.SheetWriter.{SheetWriter}
use Rattle.sheets.specs.declared.trailer.Trailer.{Trailer}
use Rattle.sheets.specs.Bytes.{put, numbers_bytes}
use Rattle.sheets.specs.Trailers.{trailer_bytes, no_ledger}
use Rattle.sheets.specs.Sheets.{Section, section_bytes, section_length, book_bytes, chosen_points, LinesFit, ledger_bytes, last_place, last_guess}

abbrev pub begun : SheetWriter
begun = record { len = 0; last = no_ledger; guess = 0 }

-- longer than any sheet: only such a writer may be let go
abbrev pub IsPastEverySheet : SheetWriter → Type 0
IsPastEverySheet w = 2147483648 < w.len

-- as long as some sheet: so it is with every writer that begin and add make, and none of these may be let go
abbrev pub IsWithinSheets : SheetWriter → Type 0
IsWithinSheets w = w.len ≤ 2147483648

-- the buffer is too short for a sheet up to `end`, or such a sheet too long
abbrev pub no_room : List ℕ → ℕ → Bool
no_room s end = nat_lt (length s) end || nat_lt 2147483648 end

abbrev pub add_answer : SheetWriter → List ℕ → ℕ → List RangeNumber → Result Unit Refusal
add_answer w s k ls =
    unless (k == 0 || nat_lt 4096 k) GuessOutOfRange
    (unless (nat_lt 16383 (length ls)) LedgerLength
    (unless (no_room s (w.len + section_length ls)) ShortBuffer (Ok tt)))

abbrev pub next_writer : SheetWriter → ℕ → List RangeNumber → SheetWriter
next_writer w k ls = record { len = w.len + section_length ls; last = w.len; guess = k }

abbrev pub added_writer : Result Unit Refusal → SheetWriter → ℕ → List RangeNumber → SheetWriter
added_writer (Ok u) w k ls = next_writer w k ls
added_writer (Err e) w k ls = w

abbrev pub added_sheet : Result Unit Refusal → SheetWriter → List ℕ → ℕ → List RangeNumber → List ℕ
added_sheet (Ok u) w s k ls = put s w.len (section_bytes k ls)
added_sheet (Err e) w s k ls = s

-- what close puts behind the ledgers
abbrev pub end_trailer : SheetWriter → List GuessLine → ℕ → List ℕ → Trailer
end_trailer w ls floor ms =
    record { book = w.len; points = w.len + 8 * length ls; ledger = w.last; n = length ms; floor = floor }

abbrev pub end_bytes : SheetWriter → List GuessLine → ℕ → List ℕ → List ℕ
end_bytes w ls floor ms =
    book_bytes ls ++ (numbers_bytes (chosen_points ms) ++ trailer_bytes (end_trailer w ls floor ms))

abbrev pub end_length : List GuessLine → List ℕ → ℕ
end_length ls ms = 8 * length ls + 2 * length (chosen_points ms) + 16

-- a refused close gives the writer back
abbrev pub close_answer : SheetWriter → List ℕ → List GuessLine → ℕ → List ℕ → Result ℕ (SheetWriter × Refusal)
close_answer w s ls floor ms =
    cond (nat_lt 4096 (length ms)) (Err (w, WrongLength))
    (cond (no_room s (w.len + end_length ls ms)) (Err (w, ShortBuffer))
    (cond (floor == w.guess) (Ok (w.len + end_length ls ms)) (Err (w, BadSheet))))

abbrev pub closed_sheet : Result ℕ (SheetWriter × Refusal) → SheetWriter → List ℕ → List GuessLine → ℕ → List ℕ → List ℕ
closed_sheet (Ok n) w s ls floor ms = put s w.len (end_bytes w ls floor ms)
closed_sheet (Err e) w s ls floor ms = s

abbrev pub torn_length : SheetWriter → List ℕ → ℕ
torn_length w s = min w.len (length s)

abbrev pub torn_sheet : SheetWriter → List ℕ → List ℕ
torn_sheet w s = replicate (torn_length w s) 0 ++ drop (torn_length w s) s

-- a section that add accepts
pub record Sound (s : Section) : Type 0 where
  pub some : 0 < s.guess
  pub most : s.guess ≤ 4096
  pub few : length s.lines ≤ 16383
  pub fit : LinesFit s.lines (length s.lines)

abbrev pub AllSound : List Section → Type 0
AllSound [] = Unit {0}
AllSound (s ∷ earlier) = Sound s × AllSound earlier

-- the writer behind these sections, the latest first
abbrev pub writer_after : List Section → SheetWriter
writer_after ss = record { len = length (ledger_bytes ss); last = last_place ss; guess = last_guess ss }

-- these sections, the latest first, are what the writer has written into the buffer
pub record Written (w : SheetWriter) (sheet : List ℕ) (ss : List Section) : Type 0 where
  pub writer : w ≡ writer_after ss
  pub bytes : take (length (ledger_bytes ss)) sheet ≡ ledger_bytes ss
  pub sound : AllSound ss

-- an accepted add has one more
abbrev pub added_sections : Result Unit Refusal → ℕ → List RangeNumber → List Section → List Section
added_sections (Ok u) k ls ss = record { guess = k; lines = ls } ∷ ss
added_sections (Err e) k ls ss = ss

-- what stays so under add
abbrev pub AddKeeps : Result Unit Refusal → SheetWriter → List ℕ → ℕ → List RangeNumber → SheetWriter → List ℕ → Type 0
AddKeeps r w s k ls w' s' = (ss : List Section) → Written w s ss → Written w' s' (added_sections r k ls ss)
