-- The listing of a run: what it is about, its guesses, its floor and its chosen points, a line each.
use Rattle.std.specs.Prelude.{ℕ, not, List, ◌++◌, length, drop, codes, decimal, Ok, Err, Result, ◌==◌, nat_lt}
use Rattle.std.specs.List.{flat_map}
use Rattle.ranges.specs.declared.refusal.Refusal.{Refusal}
use Rattle.ranges.specs.declared.refusal.Refusal.TheVariants.{WrongLength, ShortBuffer}
use Rattle.ranges.specs.Refusals.{unless}
use Rattle.guesses.specs.declared.book.GuessLine.{GuessLine}
use Rattle.guesses.specs.Texts.{line_text}
use Rattle.sheets.specs.Sheets.{chosen_points}
use Rattle.listings.specs.Text.{line_end}

abbrev pub head_text : ℕ → ℕ → List ℕ
head_text n m = codes "points " ++ (decimal n ++ (codes " ranges " ++ (decimal m ++ line_end)))

abbrev pub guess_text : GuessLine → List ℕ
guess_text l = line_text l ++ line_end

abbrev pub guesses_text : List GuessLine → List ℕ
guesses_text ls = flat_map guess_text ls

abbrev pub floor_text : ℕ → List ℕ
floor_text k = codes "floor " ++ (decimal k ++ line_end)

abbrev pub at_text : ℕ → List ℕ
at_text p = codes "at " ++ (decimal p ++ line_end)

abbrev pub points_text : List ℕ → List ℕ
points_text ps = flat_map at_text ps

-- the listing, byte by byte
abbrev pub listing : ℕ → ℕ → List GuessLine → ℕ → List ℕ → List ℕ
listing n m ls floor ms =
    head_text n m ++ (guesses_text ls ++ (floor_text floor ++ points_text (chosen_points ms)))

abbrev pub listing_answer : ℕ → ℕ → List GuessLine → ℕ → List ℕ → List ℕ → Result ℕ Refusal
listing_answer n m ls floor ms out =
    unless (not (length ms == n)) WrongLength
    (unless (nat_lt (length out) (length (listing n m ls floor ms))) ShortBuffer
    (Ok (length (listing n m ls floor ms))))

-- bytes past the listing stay
abbrev pub listed : Result ℕ Refusal → ℕ → ℕ → List GuessLine → ℕ → List ℕ → List ℕ → List ℕ
listed (Ok end) n m ls floor ms out = listing n m ls floor ms ++ drop (length (listing n m ls floor ms)) out
listed (Err e) n m ls floor ms out = out
