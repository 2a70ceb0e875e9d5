-- The calls of a run: when each is refused, and what each leaves.
use Rattle.std.specs.Prelude.{◌≡◌, ℕ, ◌+◌, ◌^◌, ◌<◌, ◌≤◌, Bool, true, false, cond, not, ◌||◌, List, ◌++◌, length, drop, replicate, Some, None, Ok, Err, Option, Result, ◌==◌, nat_le, nat_lt, slice_set}
use Rattle.ranges.specs.declared.number.RangeNumber.{RangeNumber}
use Rattle.ranges.specs.declared.refusal.Refusal.{Refusal}
use Rattle.ranges.specs.declared.refusal.Refusal.TheVariants.{RunBegun, EmptyRange, RunBlank, OtherSpace, WrongLength, GuessOpen, NoGuessOpen, GuessOutOfRange, GuessNotAboveFloor, BookFull, LedgerLength, ShortScratch, WrongTotal}
use Rattle.ranges.specs.Refusals.{unless}
use Rattle.ranges.specs.Spaces.{RangeSpace, Within}
use Rattle.ranges.specs.Weights.{total, range_weight, chosen, lowest_missed, range_of}
use Rattle.nets.specs.Finders.{FinderMeaning, find_check}
use Rattle.nets.specs.Verifiers.{VerifierMeaning}
use Rattle.guesses.specs.declared.book.Verdict.{Verdict}
use Rattle.guesses.specs.declared.book.Verdict.TheVariants.{Open, Hit, RuledOut, GivenUp}
use Rattle.guesses.specs.declared.book.GuessLine.{GuessLine}
use Rattle.guesses.specs.Books.{book_lines, empty_book, book_added, book_rewritten}
use Rattle.guesses.specs.Limits.{limit_of}
use Rattle.ledgers.specs.Doublings.{doubled, Grown}
use Rattle.runs.specs.declared.state.OpenGuess.{OpenGuess}
use Rattle.runs.specs.declared.state.Phase.{Phase}
use Rattle.runs.specs.declared.state.Phase.TheVariants.{Blank, Idle, Guessing}
use Rattle.runs.specs.declared.state.State.{State}

-- a run with the caller's buffers
pub record Desk : Type 0 where
  pub state : State
  pub weights : List ℕ
  pub marks : List ℕ
  pub ledger : List RangeNumber
  pub scratch : List ℕ

abbrev pub is_blank : Phase → Bool
is_blank Blank = true
is_blank Idle = false
is_blank (Guessing g) = false

abbrev pub is_guessing : Phase → Bool
is_guessing Blank = false
is_guessing Idle = false
is_guessing (Guessing g) = true

-- the open guess; where none is open, what it is means nothing
abbrev pub guess_of : Phase → OpenGuess
guess_of Blank = record { k = 0; doublings = 0; total = 0 }
guess_of Idle = record { k = 0; doublings = 0; total = 0 }
guess_of (Guessing g) = g

-- what every run keeps of an open guess, whatever its buffers hold
abbrev pub SomeGuess : State → Type 0
SomeGuess st = is_guessing st.phase ≡ true → 0 < (guess_of st.phase).k

abbrev pub FewGuess : State → Type 0
FewGuess st = is_guessing st.phase ≡ true → (guess_of st.phase).k ≤ st.n

abbrev pub FewPoints : State → Type 0
FewPoints st = is_guessing st.phase ≡ true → st.n ≤ 4096

abbrev pub Unfinished : State → Type 0
Unfinished st = is_guessing st.phase ≡ true → (guess_of st.phase).doublings < limit_of st.n (guess_of st.phase).k

abbrev pub GrownTotal : State → Type 0
GrownTotal st = is_guessing st.phase ≡ true → Grown st.n (guess_of st.phase).k (guess_of st.phase).doublings (guess_of st.phase).total

abbrev pub other_space : RangeSpace → State → Bool
other_space S st = not (S.points == st.n) || not (S.ranges == st.m)

abbrev pub blank_state : State
blank_state = record { phase = Blank; n = 0; m = 0; floor = 0; book = empty_book }

-- begin: from a blank run, on a space whose every range holds a point
abbrev pub empty_check : Option ℕ → Result Unit Refusal
empty_check None = Ok tt
empty_check (Some j) = Err (EmptyRange (record { 0 = j }))

abbrev pub begin_check : RangeSpace → State → Result Unit Refusal
begin_check S st = unless (not (is_blank st.phase)) RunBegun (empty_check (lowest_missed S (λ _. true)))

abbrev pub begun_state : RangeSpace → State
begun_state S = record { phase = Idle; n = S.points; m = S.ranges; floor = 0; book = empty_book }

-- open: every weight 1, W = n, r = 0, and a new line
abbrev pub room_check : State → ℕ → ℕ → ℕ → Result Unit Refusal
room_check st k most ledger =
    unless (nat_le k st.floor) GuessNotAboveFloor
    (unless (nat_le 24 (length (book_lines st.book))) BookFull
    (unless (nat_lt ledger most) LedgerLength (Ok tt)))

abbrev pub open_check : RangeSpace → State → ℕ → ℕ → ℕ → Result Unit Refusal
open_check S st k weights ledger =
    unless (is_blank st.phase) RunBlank
    (unless (other_space S st) OtherSpace
    (unless (not (weights == S.points)) WrongLength
    (unless (is_guessing st.phase) GuessOpen
    (unless (k == 0 || nat_lt S.points k) GuessOutOfRange
    (room_check st k (limit_of S.points k) ledger)))))

abbrev pub line_of : ℕ → ℕ → Verdict → GuessLine
line_of k r v = record { k = k; doublings = r; verdict = v }

abbrev pub open_state : State → ℕ → State
open_state st k = record {
  phase = Guessing (record { k = k; doublings = 0; total = st.n });
  n = st.n;
  m = st.m;
  floor = st.floor;
  book = book_added st.book (line_of k 0 Open);
}

-- round: the finder's net is judged
abbrev pub buffer_check : ℕ → ℕ → ℕ → ℕ → ℕ → ℕ → ℕ → Result Unit Refusal
buffer_check n k W ledger scratch need whole =
    unless (nat_lt ledger (limit_of n k)) LedgerLength
    (unless (nat_lt scratch need) ShortScratch
    (unless (not (whole == W)) WrongTotal (Ok tt)))

abbrev pub round_check : RangeSpace → State → List ℕ → ℕ → ℕ → ℕ → ℕ → Result Unit Refusal
round_check S st ws marks ledger scratch need =
    unless (is_blank st.phase) RunBlank
    (unless (other_space S st) OtherSpace
    (unless (not (length ws == S.points) || not (marks == S.points)) WrongLength
    (unless (not (is_guessing st.phase)) NoGuessOpen
    (buffer_check S.points (guess_of st.phase).k (guess_of st.phase).total ledger scratch need (total ws)))))

-- the doublings that rule a guess out
abbrev pub rules_out : ℕ → ℕ → ℕ → Bool
rules_out n k r = r == limit_of n k

-- the open guess is closed by a verdict
abbrev pub closed_state : State → ℕ → ℕ → Verdict → State
closed_state st k r v = record {
  phase = Idle;
  n = st.n;
  m = st.m;
  floor = st.floor;
  book = book_rewritten st.book (line_of k r v);
}

abbrev pub hit_state : State → OpenGuess → ℕ → State
hit_state st g points = closed_state st g.k g.doublings (Hit points)

-- a range of weight w was missed and doubled
abbrev pub miss_state : State → OpenGuess → ℕ → State
miss_state st g w =
    cond (rules_out st.n g.k (g.doublings + 1))
    (record {
      phase = Idle;
      n = st.n;
      m = st.m;
      floor = g.k;
      book = book_rewritten st.book (line_of g.k (g.doublings + 1) RuledOut);
    })
    (record {
      phase = Guessing (record { k = g.k; doublings = g.doublings + 1; total = g.total + w });
      n = st.n;
      m = st.m;
      floor = st.floor;
      book = book_rewritten st.book (line_of g.k (g.doublings + 1) Open);
    })

abbrev pub cleared : ℕ → List ℕ → List ℕ
cleared need scratch = replicate need 0 ++ drop need scratch

-- what an accepted round leaves, by the number of its net's points and the range missed, if any
abbrev pub round_state : RangeSpace → State → List ℕ → ℕ → Option ℕ → State
round_state S st ws points None = hit_state st (guess_of st.phase) points
round_state S st ws points (Some j) = miss_state st (guess_of st.phase) (range_weight S ws j)

abbrev pub round_weights : RangeSpace → List ℕ → Option ℕ → List ℕ
round_weights S ws None = ws
round_weights S ws (Some j) = doubled S j ws

abbrev pub round_ledger : State → List RangeNumber → Option ℕ → List RangeNumber
round_ledger st ledger None = ledger
round_ledger st ledger (Some j) = slice_set ledger (guess_of st.phase).doublings (record { 0 = j })

abbrev pub round_desk : RangeSpace → ℕ → Desk → List ℕ → Option ℕ → Desk
round_desk S need d ms o = record {
  state = round_state S d.state d.weights (chosen ms) o;
  weights = round_weights S d.weights o;
  marks = ms;
  ledger = round_ledger d.state d.ledger o;
  scratch = cleared need d.scratch;
}

-- give up: closes the open guess
abbrev pub give_up_check : State → Result Unit Refusal
give_up_check st =
    unless (is_blank st.phase) RunBlank
    (unless (not (is_guessing st.phase)) NoGuessOpen (Ok tt))

abbrev pub gave_up_state : State → State
gave_up_state st = closed_state st (guess_of st.phase).k (guess_of st.phase).doublings GivenUp

abbrev pub or_guess : Result Unit Refusal → OpenGuess → Result OpenGuess Refusal
or_guess (Ok u) g = Ok g
or_guess (Err e) g = Err e

-- a refusal leaves what was there
abbrev pub accepted : {A : Type 0} → Result Unit Refusal → A → A → A
accepted (Ok u) after before = after
accepted (Err e) after before = before

-- the same of a round, by its answer
abbrev pub after : {A : Type 0} → Result (Option RangeNumber) Refusal → (Option ℕ → A) → A → A
after (Ok o) leaves before = leaves (range_of o)
after (Err e) leaves before = before

-- the net and the answer of an accepted round are the finder's and the verifier's; a refused one leaves the marks
abbrev pub Played : FinderMeaning → VerifierMeaning → RangeSpace → ℕ → List ℕ → Result (Option RangeNumber) Refusal → List ℕ → List ℕ → Type 0
Played F V S k ws (Ok o) old ms = F.nets S k ws ms × V.picks S ms ws (range_of o)
Played F V S k ws (Err e) old ms = ms ≡ old

-- a net, its number of points and the verifier's answer
abbrev pub NetAndVerdict : FinderMeaning → VerifierMeaning → RangeSpace → ℕ → List ℕ → List ℕ → ℕ → Option RangeNumber → Type 0
NetAndVerdict F V S k ws ms points o = F.nets S k ws ms × (points ≡ chosen ms) × V.picks S ms ws (range_of o)

-- what an accepted round's checks and the run's own facts give: the guess, and that the finder accepts
abbrev pub Ready : RangeSpace → State → List ℕ → ℕ → ℕ → ℕ → ℕ → Result OpenGuess Refusal → Type 0
Ready S st ws marks ledger scratch need (Ok g) =
    (find_check S g.k ws marks scratch need ≡ Ok tt) × (is_guessing st.phase ≡ true) × (S.points ≡ st.n) × (length ws ≡ S.points) × (total ws ≡ g.total) × (total ws ≤ 2 ^ 49)
    × (0 < g.k) × (g.k ≤ st.n) × (st.n ≤ 4096) × (g.doublings < limit_of st.n g.k) × (limit_of st.n g.k ≤ ledger)
    × (g ≡ guess_of st.phase) × (round_check S st ws marks ledger scratch need ≡ Ok tt) × Within S
Ready S st ws marks ledger scratch need (Err e) = Unit {0}
