-- A placement on its way: what holds between its calls.
use Rattle.std.specs.Prelude.{◌≡◌, ℕ, ◌+◌, ◌-◌, ◌*◌, ◌^◌, ◌<◌, ◌≤◌, min, true, false, cond, ◌⊎◌, List, ◌∷◌, length, drop, Some, None, Option, ◌==◌, ◌≢◌}
use Rattle.std.specs.List.{AllByRecursion}
use Rattle.ranges.specs.Spaces.{RangeSpace}
use Rattle.ranges.specs.Weights.{total, lowest_missed, chosen}
use Rattle.nets.specs.Finders.{FinderMeaning}
use Rattle.nets.specs.Verifiers.{VerifierMeaning}
use Rattle.guesses.specs.declared.book.GuessLine.{GuessLine}
use Rattle.guesses.specs.Books.{book_lines}
use Rattle.guesses.specs.Limits.{limit_of, doublings_of}
use Rattle.runs.specs.declared.state.OpenGuess.{OpenGuess}
use Rattle.runs.specs.declared.state.Phase.TheVariants.{Idle, Guessing}
use Rattle.runs.specs.Runs.{Desk, blank_state, is_guessing, guess_of}
use Rattle.runs.specs.Histories.{Event, judged, guess_in, doubled_in, hit_in}
use Rattle.sheets.specs.declared.writer.SheetWriter.{SheetWriter}
use Rattle.sheets.specs.Sheets.{last_guess, hit_points}
use Rattle.sheets.specs.Writing.{Written}
use Rattle.placing.specs.Placements.{Way, next_guess, all_rounds, ranged, ledgers_in, Replays}

-- run and buffers fit the space, so that every call of a placement is accepted
pub record Fitted (S : RangeSpace) (need : ℕ) (d : Desk) : Type 0 where
  pub points : S.points ≡ d.state.n
  pub ranges : S.ranges ≡ d.state.m
  pub weights : length d.weights ≡ S.points
  pub marks : length d.marks ≡ S.points
  pub ledger : 3 * S.points ≤ length d.ledger
  pub scratch : need ≤ length d.scratch
  pub whole : is_guessing d.state.phase ≡ true → total d.weights ≡ (guess_of d.state.phase).total

-- how a guess k stands that was opened after `old`, with this floor before it
pub data Stands (S : RangeSpace) (old : List Event) (k floor : ℕ) (es : List Event) (d : Desk) : Type 0 where
  still_open : (g : OpenGuess) → d.state.phase ≡ Guessing g → g.k ≡ k → length (doubled_in es) ≡ g.doublings → hit_in es ≡ false
      → d.state.floor ≡ floor → ledgers_in S.points es ≡ ledgers_in S.points old → Stands S old k floor es d
  was_hit : (b : ℕ) (ms : List ℕ) (earlier : List Event) → d.state.phase ≡ Idle → es ≡ judged b ms None ∷ earlier → d.marks ≡ ms
      → d.state.floor ≡ floor → ledgers_in S.points es ≡ ledgers_in S.points old → Stands S old k floor es d
  was_ruled : d.state.phase ≡ Idle → hit_in es ≡ false → length (doubled_in es) ≡ limit_of S.points k → d.state.floor ≡ k
      → ledgers_in S.points es ≡ record { guess = k; lines = ranged (doubled_in es) } ∷ ledgers_in S.points old → Stands S old k floor es d

-- a guess so many rounds after it was opened
pub record Course (F : FinderMeaning) (V : VerifierMeaning) (S : RangeSpace) (from : Desk) (old : List Event) (k floor lines : ℕ) (d : Desk) (rounds : ℕ) : Type 0 where
  pub events : List Event
  pub way : Way F V S from events d
  pub guess : guess_in events ≡ Some k
  pub rounds_are : all_rounds events ≡ all_rounds old + rounds
  pub book : length d.state.book.lines ≡ 24
  pub some : 0 < lines
  pub lines_are : length (book_lines d.state.book) ≡ lines
  pub stands : Stands S old k floor events d

-- rounds take a guess from its opening to here
abbrev pub Courses : FinderMeaning → VerifierMeaning → RangeSpace → Desk → Desk → ℕ → Type 0
Courses F V S before after rounds =
    (from : Desk) (old : List Event) (k floor lines : ℕ) → Course F V S from old k floor lines before 0 → Course F V S from old k floor lines after rounds

-- the rounds are counted: no more than the doublings of an open guess, and never more than three for each of 4,096 points
abbrev pub Counted : Desk → ℕ → Type 0
Counted d rounds = (is_guessing d.state.phase ≡ true → rounds ≤ (guess_of d.state.phase).doublings) × (rounds ≤ 12288)

-- how many rounds an open guess may still take
abbrev pub turns_left : Desk → ℕ
turns_left d = cond (is_guessing d.state.phase) (12289 - (guess_of d.state.phase).doublings) 0

-- guess g is ruled out as number `count`, and the ledgers up to its own take `len` bytes
pub record Ruled (n g count len : ℕ) : Type 0 where
  pub some : 0 < g
  pub fewer : g < n
  pub power : 2 ^ count ≡ 2 * g
  pub short : len ≤ 4 * count + 4 * (g * (doublings_of n g + 4))

-- guess k may follow `count` guesses ruled out, whose ledgers take `len` bytes: it is the first, or it follows g
abbrev pub Room : ℕ → ℕ → ℕ → ℕ → Type 0
Room n k count len = ((k ≡ 1) × (count ≡ 0) × (len ≡ 0)) ⊎ ((g : ℕ) × Ruled n g count len × (k ≡ min (2 * g) n))

-- the guess after k, where 0 stands for none yet
abbrev pub following : ℕ → ℕ → ℕ
following n k = cond (k == 0) 1 (min (2 * k) n)

-- what led here, when guess k is next
abbrev pub Past : FinderMeaning → VerifierMeaning → RangeSpace → ℕ → Desk → Type 0
Past F V S k d =
    (from : Desk) × (es : List Event) × (from.state ≡ blank_state) × Way F V S from es d × (k ≡ next_guess S.points (guess_in es)) × (hit_in es ≡ false)
    × (length d.state.book.lines ≡ 24)

-- guess k can be opened and, ruled out, written
pub record Ready (F : FinderMeaning) (V : VerifierMeaning) (S : RangeSpace) (k : ℕ) (d : Desk) (w : SheetWriter) (sheet : List ℕ) : Type 0 where
  pub fitted : Fitted S (F.need S.points S.ranges) d
  pub idle : d.state.phase ≡ Idle
  pub floor : d.state.floor < k
  pub room : Room S.points k (length (book_lines d.state.book)) w.len
  pub long : 24 * S.points + 320 ≤ length sheet
  pub full : lowest_missed S (λ _. true) ≡ None
  pub some : 0 < S.ranges
  pub past : Past F V S k d

-- what is written after these events
pub record Story (F : FinderMeaning) (V : VerifierMeaning) (S : RangeSpace) (from : Desk) (sheet₀ : List ℕ) (rounds : ℕ) (es : List Event) (d : Desk) (w : SheetWriter) (sheet : List ℕ) : Type 0 where
  pub way : Way F V S from es d
  pub rounds_are : rounds ≡ all_rounds es
  pub floor_is : d.state.floor ≡ last_guess (ledgers_in S.points es)
  pub written : Written w sheet (ledgers_in S.points es)
  pub rest : drop w.len sheet ≡ drop w.len sheet₀
  pub replays : AllByRecursion (Replays S) (ledgers_in S.points es)

-- guess k is next
abbrev pub Ahead : FinderMeaning → VerifierMeaning → RangeSpace → Desk → List ℕ → ℕ → ℕ → Desk → SheetWriter → List ℕ → Type 0
Ahead F V S from sheet₀ k rounds d w sheet =
    (es : List Event) × Story F V S from sheet₀ rounds es d w sheet × (k ≡ next_guess S.points (guess_in es)) × (hit_in es ≡ false) × (length d.state.book.lines ≡ 24)

-- the last guess was hit
abbrev pub Done : FinderMeaning → VerifierMeaning → RangeSpace → Desk → List ℕ → ℕ → Desk → SheetWriter → List ℕ → Type 0
Done F V S from sheet₀ rounds d w sheet =
    (es : List Event) × Story F V S from sheet₀ rounds es d w sheet
    × ((k : ℕ) × (b : ℕ) × (ms : List ℕ) × (earlier : List Event) × (guess_in es ≡ Some k) × (es ≡ judged b ms None ∷ earlier) × (d.marks ≡ ms))

-- guess k has its verdict: ruled out, the floor is k and the next guess can be opened; hit, the floor is below k
pub record Settled (F : FinderMeaning) (V : VerifierMeaning) (S : RangeSpace) (k : ℕ) (d : Desk) (w : SheetWriter) (sheet : List ℕ) : Type 0 where
  pub fitted : Fitted S (F.need S.points S.ranges) d
  pub onward : d.state.floor ≡ k → (k < S.points) × Ready F V S (following S.points k) d w sheet
  pub short : w.len ≤ 22 * S.points + 48
  pub lines : length (book_lines d.state.book) ≤ 13

abbrev pub Verdict : FinderMeaning → VerifierMeaning → RangeSpace → Desk → List ℕ → ℕ → ℕ → Desk → SheetWriter → List ℕ → Type 0
Verdict F V S from sheet₀ k rounds d w sheet =
    (d.state.floor ≡ k → Ahead F V S from sheet₀ (following S.points k) rounds d w sheet)
    × ((d.state.floor ≢ k) → Done F V S from sheet₀ rounds d w sheet)

-- a guess's rounds more
abbrev pub Plays : FinderMeaning → VerifierMeaning → RangeSpace → ℕ → Desk → SheetWriter → List ℕ → Desk → SheetWriter → List ℕ → ℕ → Type 0
Plays F V S k before w sheet after w' sheet' r =
    (from : Desk) (sheet₀ : List ℕ) (rounds : ℕ) → from.state ≡ blank_state → Ahead F V S from sheet₀ k rounds before w sheet → Verdict F V S from sheet₀ k (rounds + r) after w' sheet'

-- guesses by the schedule up to a hit
abbrev pub EndsIn : FinderMeaning → VerifierMeaning → RangeSpace → Desk → SheetWriter → List ℕ → Desk → SheetWriter → List ℕ → ℕ → Type 0
EndsIn F V S before w sheet after w' sheet' r =
    (from : Desk) (sheet₀ : List ℕ) → from.state ≡ blank_state → Ahead F V S from sheet₀ 1 0 before w sheet → Done F V S from sheet₀ r after w' sheet'

-- and up to here, where guess k was the last
abbrev pub SoFar : FinderMeaning → VerifierMeaning → RangeSpace → ℕ → Desk → SheetWriter → List ℕ → Desk → SheetWriter → List ℕ → ℕ → Type 0
SoFar F V S k before w sheet after w' sheet' r =
    (from : Desk) (sheet₀ : List ℕ) → from.state ≡ blank_state → Ahead F V S from sheet₀ 1 0 before w sheet → Verdict F V S from sheet₀ k r after w' sheet'

-- the points of a line that says hit, 0 of any other
abbrev pub points_in : Option GuessLine → ℕ
points_in None = 0
points_in (Some l) = hit_points l.verdict

-- what place's checks found, and that without ranges no point is marked
pub record Placeable (F : FinderMeaning) (S : RangeSpace) (weights : ℕ) (ms : List ℕ) (ledger scratch sheet : ℕ) : Type 0 where
  pub full : lowest_missed S (λ _. true) ≡ None
  pub weights_long : weights ≡ S.points
  pub marks_long : length ms ≡ S.points
  pub lines : 3 * S.points ≤ ledger
  pub enough : F.need S.points S.ranges ≤ scratch
  pub room : 24 * S.points + 320 ≤ sheet
  pub clean : S.ranges ≡ 0 → chosen ms ≡ 0
