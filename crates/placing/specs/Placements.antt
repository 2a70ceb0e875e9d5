-- A placement: the calls that place makes on a blank run, and what they leave.
use Rattle.std.specs.Prelude.{◌≡◌, ℕ, ◌+◌, ◌*◌, ◌<◌, ◌≤◌, min, true, false, cond, not, ◌||◌, List, [], ◌∷◌, ◌++◌, map, length, take, drop, replicate, Some, None, Ok, Err, Option, Result, ◌==◌, nat_lt}
use Rattle.std.specs.List.{AllByRecursion}
use Rattle.ranges.specs.declared.number.RangeNumber.{RangeNumber}
use Rattle.ranges.specs.declared.refusal.Refusal.{Refusal}
use Rattle.ranges.specs.declared.refusal.Refusal.TheVariants.{EmptyRange, WrongLength, LedgerLength, ShortScratch, ShortBuffer}
use Rattle.ranges.specs.Refusals.{unless}
use Rattle.ranges.specs.Spaces.{RangeSpace}
use Rattle.ranges.specs.Weights.{marked, chosen, lowest_missed, HitsAll}
use Rattle.nets.specs.Finders.{FinderMeaning}
use Rattle.nets.specs.Verifiers.{VerifierMeaning}
use Rattle.guesses.specs.Books.{book_lines}
use Rattle.guesses.specs.Limits.{limit_of}
use Rattle.ledgers.specs.Doublings.{NeedsMore}
use Rattle.ledgers.specs.Replays.{replay_answer}
use Rattle.runs.specs.declared.state.State.{State}
use Rattle.runs.specs.Runs.{Desk, blank_state, guess_of, round_desk}
use Rattle.runs.specs.Histories.{Event, begun, opened, judged, gave_up, refused, Step, History, Along, guess_in, doubled_in, hit_in}
use Rattle.sheets.specs.Sheets.{Section, sheet_bytes}
use Rattle.sheets.specs.Reading.{told, read_sheet}
use Rattle.sheets.specs.RoundTrip.{tells_of}

-- the checks of place, in number order
abbrev pub bare_first : Option ℕ → Result Unit Refusal → Result Unit Refusal
bare_first None next = next
bare_first (Some j) next = Err (EmptyRange (record { 0 = j }))

abbrev pub place_check : RangeSpace → ℕ → ℕ → ℕ → ℕ → ℕ → ℕ → Result Unit Refusal
place_check S need weights marks ledger scratch sheet =
    bare_first (lowest_missed S (λ _. true))
    (unless (not (weights == S.points) || not (marks == S.points)) WrongLength
    (unless (nat_lt ledger (3 * S.points)) LedgerLength
    (unless (nat_lt scratch need) ShortScratch
    (unless (nat_lt sheet (24 * S.points + 320)) ShortBuffer (Ok tt)))))

-- the schedule: guess 1 first, then twice the guess before, at most n
abbrev pub next_guess : ℕ → Option ℕ → ℕ
next_guess n None = 1
next_guess n (Some k) = min (2 * k) n

-- what may come next: begin at first; a guess by the schedule, while none is hit and where there are ranges;
-- a round with this finder and this verifier, which clears as much scratch as this finder needs; and no other call, and none refused
abbrev pub Turn : FinderMeaning → VerifierMeaning → RangeSpace → List Event → Desk → Event → Desk → Type 0
Turn F V S es d begun d' = es ≡ []
Turn F V S es d (opened k) d' = (0 < S.ranges) × (hit_in es ≡ false) × (k ≡ next_guess S.points (guess_in es))
Turn F V S es d (judged b ms o) d' =
    (b ≡ F.bound S.points S.ranges (guess_of d.state.phase).k) × F.nets S (guess_of d.state.phase).k d.weights ms × V.picks S ms d.weights o
    × (d' ≡ round_desk S (F.need S.points S.ranges) d ms o)
Turn F V S es d gave_up d' = ⊥
Turn F V S es d refused d' = ⊥

-- calls by that schedule, the newest first
pub data Way (F : FinderMeaning) (V : VerifierMeaning) (S : RangeSpace) (from : Desk) : List Event → Desk → Type 0 where
  here : Way F V S from [] from
  on : {es : List Event} {d d' : Desk} {e : Event} → Way F V S from es d → Step S d e d' → Turn F V S es d e d' → Way F V S from (e ∷ es) d'

-- the accepted rounds of all guesses
abbrev pub all_rounds : List Event → ℕ
all_rounds [] = 0
all_rounds (begun ∷ es) = all_rounds es
all_rounds (opened k ∷ es) = all_rounds es
all_rounds (judged b ms o ∷ es) = all_rounds es + 1
all_rounds (gave_up ∷ es) = all_rounds es
all_rounds (refused ∷ es) = all_rounds es

-- ranges by their numbers
abbrev pub ranged : List ℕ → List RangeNumber
ranged js = map (λ j. record { 0 = j }) js

-- a guess is ruled out when its ledger has as many lines as its limit
abbrev pub with_ledger : ℕ → Option ℕ → List ℕ → List Section → List Section
with_ledger n None js ss = ss
with_ledger n (Some k) js ss = cond (length js == limit_of n k) (record { guess = k; lines = ranged js } ∷ ss) ss

-- the ledgers of the guesses that were ruled out, the latest first
abbrev pub ledgers_in : ℕ → List Event → List Section
ledgers_in n [] = []
ledgers_in n (begun ∷ es) = ledgers_in n es
ledgers_in n (opened k ∷ es) = ledgers_in n es
ledgers_in n (judged b ms None ∷ es) = ledgers_in n es
ledgers_in n (judged b ms (Some j) ∷ es) = with_ledger n (guess_in es) (doubled_in es ++ j ∷ []) (ledgers_in n es)
ledgers_in n (gave_up ∷ es) = ledgers_in n es
ledgers_in n (refused ∷ es) = ledgers_in n es

-- the caller's buffers
pub record Buffers : Type 0 where
  pub weights : List ℕ
  pub marks : List ℕ
  pub ledger : List RangeNumber
  pub scratch : List ℕ
  pub sheet : List ℕ

abbrev pub desk_of : State → Buffers → Desk
desk_of st b = record { state = st; weights = b.weights; marks = b.marks; ledger = b.ledger; scratch = b.scratch }

-- without ranges all marks become 0
abbrev pub clean_marks : RangeSpace → List ℕ → List ℕ
clean_marks S ms = cond (S.ranges == 0) (replicate (length ms) 0) ms

-- a blank run with the caller's buffers
abbrev pub start_desk : RangeSpace → Buffers → Desk
start_desk S b = record { state = blank_state; weights = b.weights; marks = clean_marks S b.marks; ledger = b.ledger; scratch = b.scratch }

-- it ends with a hit; without ranges, with begin
abbrev pub Finished : RangeSpace → List Event → Type 0
Finished S es = (S.ranges ≡ 0 → es ≡ begun ∷ []) × (0 < S.ranges → hit_in es ≡ true)

-- the sheet of a placement: the ledgers of the guesses ruled out, the book, the chosen points, n and the floor
abbrev pub placed_sheet : RangeSpace → List Event → Desk → List ℕ
placed_sheet S es d = sheet_bytes (ledgers_in S.points es) (book_lines d.state.book) d.state.floor d.marks

-- what place does and answers: points, floor, rounds and length are those of the run's end state
pub record Placement (F : FinderMeaning) (V : VerifierMeaning) (S : RangeSpace) (from d : Desk) (es : List Event) (sheet sheet' : List ℕ) (points floor rounds len : ℕ) : Type 0 where
  pub way : Way F V S from es d
  pub finished : Finished S es
  pub points_are : points ≡ chosen d.marks
  pub floor_is : floor ≡ d.state.floor
  pub rounds_are : rounds ≡ all_rounds es
  pub length_is : len ≡ length (placed_sheet S es d)
  pub sheet_is : sheet' ≡ placed_sheet S es d ++ drop (length (placed_sheet S es d)) sheet

-- replay accepts a section's ledger
abbrev pub Replays : RangeSpace → Section → Type 0
Replays S s = replay_answer S s.guess s.lines S.points ≡ Ok tt

-- what a placement is worth: the laws of runs hold all along; the marked points hit every range and are at most the
-- finder's bound for the last guess; every set that hits all ranges has more points than the floor; every ledger in the
-- sheet replays; and the sheet reads back
pub record Worth (F : FinderMeaning) (S : RangeSpace) (d : Desk) (es : List Event) (sheet' : List ℕ) (len : ℕ) : Type 0 where
  pub lawful : (h : History S es d) × Along h
  pub hits : HitsAll S (marked d.marks)
  pub few : (k : ℕ) → guess_in es ≡ Some k → chosen d.marks ≤ F.bound S.points S.ranges k
  pub floor : 0 < S.ranges → NeedsMore S d.state.floor
  pub replays : AllByRecursion (Replays S) (ledgers_in S.points es)
  pub read : told (read_sheet (take len sheet')) ≡ Ok (tells_of (ledgers_in S.points es) (book_lines d.state.book) d.state.floor d.marks)

-- some history of calls by the schedule leads from this desk to the buffers as they are left, with these four numbers
abbrev pub Placed : FinderMeaning → VerifierMeaning → RangeSpace → Desk → List ℕ → ℕ × ℕ × ℕ × ℕ → Buffers → Type 0
Placed F V S from sheet a after =
    (st : State) × (es : List Event) × Placement F V S from (desk_of st after) es sheet after.sheet a.0 a.1 a.2 a.3 × Worth F S (desk_of st after) es after.sheet a.3

-- accepted, that; refused, every buffer is as it was
abbrev pub PlaceDone : FinderMeaning → VerifierMeaning → RangeSpace → Result (ℕ × ℕ × ℕ × ℕ) Refusal → Buffers → Buffers → Type 0
PlaceDone F V S (Ok a) before after = Placed F V S (start_desk S before) before.sheet a after
PlaceDone F V S (Err e) before after = after ≡ before

-- a finder that marks just one net, and a verifier that has just one answer
abbrev pub OneNet : FinderMeaning → Type 0
OneNet F = (S : RangeSpace) (k : ℕ) (ws ms ms' : List ℕ) → F.nets S k ws ms → F.nets S k ws ms' → ms ≡ ms'

abbrev pub OneAnswer : VerifierMeaning → Type 0
OneAnswer V = (S : RangeSpace) (ms ws : List ℕ) (o o' : Option ℕ) → V.picks S ms ws o → V.picks S ms ws o' → o ≡ o'

-- with such a finder and such a verifier whoever places by the rules comes to the same numbers and the same bytes
abbrev pub OnlyOne : FinderMeaning → VerifierMeaning → RangeSpace → Result (ℕ × ℕ × ℕ × ℕ) Refusal → Buffers → Buffers → Type 0
OnlyOne F V S (Ok a) before after =
    OneNet F → OneAnswer V → (b : ℕ × ℕ × ℕ × ℕ) (other : Buffers) → Placed F V S (start_desk S before) before.sheet b other → (b ≡ a) × (other ≡ after)
OnlyOne F V S (Err e) before after = Unit {0}
