-- Histories of calls on a run, and the laws that hold of every one.
use Rattle.std.specs.Prelude.{◌≡◌, ℕ, ◌+◌, ◌-◌, ◌<◌, ◌≤◌, Bool, true, false, cond, List, [], ◌∷◌, ◌++◌, reverse, length, take, Some, None, Ok, Err, Option, Result, ◌==◌}
use Rattle.ranges.specs.declared.refusal.Refusal.{Refusal}
use Rattle.std.specs.List.{AllByRecursion}
use Rattle.ranges.specs.declared.number.RangeNumber.{RangeNumber}
use Rattle.ranges.specs.Spaces.{RangeSpace}
use Rattle.ranges.specs.Below.{count_below}
use Rattle.ranges.specs.Weights.{marked, chosen, HitsAll}
use Rattle.nets.specs.Finders.{Net, FinderMeaning}
use Rattle.nets.specs.Verifiers.{Judged, VerifierMeaning}
use Rattle.guesses.specs.declared.book.Verdict.{Verdict}
use Rattle.guesses.specs.declared.book.Verdict.TheVariants.{Open, Hit, RuledOut, GivenUp}
use Rattle.guesses.specs.declared.book.GuessLine.{GuessLine}
use Rattle.guesses.specs.Books.{book_lines, line_at}
use Rattle.guesses.specs.Limits.{limit_of}
use Rattle.ledgers.specs.Doublings.{ones, NeedsMore}
use Rattle.ledgers.specs.Replays.{numbers, replay_answer}
use Rattle.runs.specs.declared.call.Call.{Call}
use Rattle.runs.specs.declared.call.Call.TheVariants as calls
use Rattle.runs.specs.declared.call.Call.TheVariants.{Begin, Round, GiveUp}
use Rattle.runs.specs.Runs.{Desk, blank_state, is_guessing, guess_of, begin_check, begun_state, open_check, open_state, round_check, round_desk, give_up_check, gave_up_state, line_of, cleared}

-- what one call came to
pub data Event : Type 0 where
  begun : Event
  opened : ℕ → Event
  -- an accepted round: its finder's bound, the net, and the range missed, if any
  judged : ℕ → List ℕ → Option ℕ → Event
  gave_up : Event
  refused : Event

-- one call, accepted or refused, on a space; a round with any net and any answer that a finder and a verifier may give
pub data Step (S : RangeSpace) : Desk → Event → Desk → Type 0 where
  begins : {d : Desk} → begin_check S d.state ≡ Ok tt
      → Step S d begun (record { state = begun_state S; weights = d.weights; marks = d.marks; ledger = d.ledger; scratch = d.scratch })
  opens : {d : Desk} {k : ℕ} → open_check S d.state k (length d.weights) (length d.ledger) ≡ Ok tt
      → Step S d (opened k) (record { state = open_state d.state k; weights = ones S.points; marks = d.marks; ledger = d.ledger; scratch = d.scratch })
  judges : {d : Desk} (need : ℕ) {bound : ℕ} {ms : List ℕ} {o : Option ℕ}
      → round_check S d.state d.weights (length d.marks) (length d.ledger) (length d.scratch) need ≡ Ok tt
      → Net S (guess_of d.state.phase).k d.weights bound ms → Judged S ms o
      → Step S d (judged bound ms o) (round_desk S need d ms o)
  gives_up : {d : Desk} → give_up_check d.state ≡ Ok tt
      → Step S d gave_up (record { state = gave_up_state d.state; weights = d.weights; marks = d.marks; ledger = d.ledger; scratch = d.scratch })
  refuses : {d : Desk} → Step S d refused d

-- what a list of calls, the newest first, made of a blank run and any buffers
pub data History (S : RangeSpace) : List Event → Desk → Type 0 where
  start : (ws ms : List ℕ) (ledger : List RangeNumber) (scratch : List ℕ)
      → History S [] (record { state = blank_state; weights = ws; marks = ms; ledger = ledger; scratch = scratch })
  next : {es : List Event} {d d' : Desk} {e : Event} → History S es d → Step S d e d' → History S (e ∷ es) d'

-- the guess of the last accepted open
abbrev pub guess_in : List Event → Option ℕ
guess_in [] = None
guess_in (begun ∷ es) = guess_in es
guess_in (opened k ∷ es) = Some k
guess_in (judged b ms o ∷ es) = guess_in es
guess_in (gave_up ∷ es) = guess_in es
guess_in (refused ∷ es) = guess_in es

-- its accepted rounds
abbrev pub rounds : List Event → ℕ
rounds [] = 0
rounds (begun ∷ es) = rounds es
rounds (opened k ∷ es) = 0
rounds (judged b ms o ∷ es) = rounds es + 1
rounds (gave_up ∷ es) = rounds es
rounds (refused ∷ es) = rounds es

abbrev pub pushed : List ℕ → Option ℕ → List ℕ
pushed js None = js
pushed js (Some j) = js ++ (j ∷ [])

-- its ledger: the ranges that its rounds doubled, in order
abbrev pub doubled_in : List Event → List ℕ
doubled_in [] = []
doubled_in (begun ∷ es) = doubled_in es
doubled_in (opened k ∷ es) = []
doubled_in (judged b ms o ∷ es) = pushed (doubled_in es) o
doubled_in (gave_up ∷ es) = doubled_in es
doubled_in (refused ∷ es) = doubled_in es

-- whether its last accepted round missed no range
abbrev pub missed_none : Option ℕ → Bool
missed_none None = true
missed_none (Some j) = false

abbrev pub hit_in : List Event → Bool
hit_in [] = false
hit_in (begun ∷ es) = hit_in es
hit_in (opened k ∷ es) = false
hit_in (judged b ms o ∷ es) = missed_none o
hit_in (gave_up ∷ es) = hit_in es
hit_in (refused ∷ es) = hit_in es

-- what the last line of the book says of it, for its limit
abbrev pub last_verdict : ℕ → List Event → Verdict
last_verdict most [] = Open
last_verdict most (begun ∷ es) = last_verdict most es
last_verdict most (opened k ∷ es) = Open
last_verdict most (judged b ms None ∷ es) = Hit (chosen ms)
last_verdict most (judged b ms (Some j) ∷ es) = cond (length (doubled_in es) + 1 == most) RuledOut Open
last_verdict most (gave_up ∷ es) = GivenUp
last_verdict most (refused ∷ es) = last_verdict most es

abbrev pub last_line : List GuessLine → Option GuessLine
last_line ls = line_at ls (length ls - 1)

-- some k points hit all ranges
abbrev pub Fits : RangeSpace → ℕ → Type 0
Fits S k = (P : ℕ → Bool) × HitsAll S P × (count_below P S.points ≤ k)

-- a line that says ruled out is right
abbrev pub RuledRight : RangeSpace → GuessLine → Type 0
RuledRight S line = line.verdict ≡ RuledOut → NeedsMore S line.k

-- a round that marks a guess hit leaves marks that hit all ranges, at most its finder's bound
abbrev pub HitRight : RangeSpace → List Event → Desk → Type 0
HitRight S [] d = Unit {0}
HitRight S (begun ∷ es) d = Unit {0}
HitRight S (opened k ∷ es) d = Unit {0}
HitRight S (judged b ms None ∷ es) d = HitsAll S (marked d.marks) × (chosen d.marks ≤ b)
HitRight S (judged b ms (Some j) ∷ es) d = Unit {0}
HitRight S (gave_up ∷ es) d = Unit {0}
HitRight S (refused ∷ es) d = Unit {0}

pub record Lawful (S : RangeSpace) (es : List Event) (d : Desk) : Type 0 where
  -- an open guess is that of the last open, has fewer rounds than its limit, and one ledger line for each
  pub unfinished : is_guessing d.state.phase ≡ true
      → (guess_in es ≡ Some (guess_of d.state.phase).k) × (rounds es < limit_of S.points (guess_of d.state.phase).k) × (length (doubled_in es) ≡ rounds es)
  -- the ranges doubled stand at the front of the ledger, until the next accepted open
  pub front : take (length (doubled_in es)) (numbers d.ledger) ≡ doubled_in es
  -- no guess has more rounds than its limit, and the round that reaches it closes the guess
  pub limited : (k : ℕ) → guess_in es ≡ Some k → rounds es ≤ limit_of S.points k
  pub closes : (k : ℕ) → guess_in es ≡ Some k → rounds es ≡ limit_of S.points k → is_guessing d.state.phase ≡ false
  -- the last line of the book tells of the last guess
  pub told : (k : ℕ) → guess_in es ≡ Some k → last_line (book_lines d.state.book) ≡ Some (line_of k (length (doubled_in es)) (last_verdict (limit_of S.points k) es))
  -- a line says ruled out only where every set that hits all ranges has more points, and so does a floor
  pub ruled_out : AllByRecursion (RuledRight S) (book_lines d.state.book)
  pub floor : 0 < d.state.floor → NeedsMore S d.state.floor
  -- a guess that missed a range in each of its limit's rounds is ruled out, and replay accepts its ledger
  pub certified : (k : ℕ) (ledger : List RangeNumber) → guess_in es ≡ Some k → length (doubled_in es) ≡ limit_of S.points k → numbers ledger ≡ doubled_in es
      → replay_answer S k ledger S.points ≡ Ok tt
  -- a hit is right
  pub hit : HitRight S es d
  -- where some k points hit all ranges, round number k·t of guess k is a hit
  pub found : (k : ℕ) → guess_in es ≡ Some k → rounds es ≡ limit_of S.points k → Fits S k → hit_in es ≡ true

-- the laws hold of a history's end and of every state on its way
abbrev pub Along : {S : RangeSpace} {es : List Event} {d : Desk} → History S es d → Type 0
Along {S} (start ws ms ledger scratch) = Lawful S [] (record { state = blank_state; weights = ws; marks = ms; ledger = ledger; scratch = scratch })
Along {S} (next {es} {d} {d'} {e} h s) = Lawful S (e ∷ es) d' × Along h

abbrev pub is_refused : Event → Bool
is_refused begun = false
is_refused (opened k) = false
is_refused (judged b ms o) = false
is_refused gave_up = false
is_refused refused = true

-- how many calls were accepted
abbrev pub accepted_in : List Event → ℕ
accepted_in [] = 0
accepted_in (e ∷ es) = accepted_in es + cond (is_refused e) 0 1

-- what a call asks for
pub data Request : Type 1 where
  to_begin : Request
  to_open : ℕ → Request
  to_round : FinderMeaning → VerifierMeaning → Request
  to_give_up : Request

-- the check of a call
abbrev pub check_of : RangeSpace → Request → Desk → Result Unit Refusal
check_of S to_begin d = begin_check S d.state
check_of S (to_open k) d = open_check S d.state k (length d.weights) (length d.ledger)
check_of S (to_round F V) d = round_check S d.state d.weights (length d.marks) (length d.ledger) (length d.scratch) (F.need S.points S.ranges)
check_of S to_give_up d = give_up_check d.state

-- an accepted round came of this finder and this verifier
abbrev pub JudgedBy : FinderMeaning → VerifierMeaning → RangeSpace → Desk → Event → Type 0
JudgedBy F V S d begun = ⊥
JudgedBy F V S d (opened k) = ⊥
JudgedBy F V S d (judged b ms o) = (b ≡ F.bound S.points S.ranges (guess_of d.state.phase).k) × F.nets S (guess_of d.state.phase).k d.weights ms × V.picks S ms d.weights o
JudgedBy F V S d gave_up = ⊥
JudgedBy F V S d refused = ⊥

-- the event of an accepted call
abbrev pub EventOf : RangeSpace → Request → Desk → Event → Type 0
EventOf S to_begin d e = e ≡ begun
EventOf S (to_open k) d e = e ≡ opened k
EventOf S (to_round F V) d e = JudgedBy F V S d e
EventOf S to_give_up d e = e ≡ gave_up

-- a call comes to its event where its check accepts, else it is refused
abbrev pub ComesTo : RangeSpace → Request → Result Unit Refusal → Desk → Event → Type 0
ComesTo S q (Ok u) d e = EventOf S q d e
ComesTo S q (Err f) d e = e ≡ refused

abbrev pub Performed : RangeSpace → Request → Result Unit Refusal → Desk → Desk → Type 0
Performed S q r before after = (r ≡ check_of S q before) × ((e : Event) × Step S before e after × ComesTo S q r before e)

-- calls in order, each with its event
abbrev pub Plays : RangeSpace → List Request → Desk → List Event → Desk → Type 0
Plays S [] d [] d' = d' ≡ d
Plays S [] d (e ∷ fs) d' = ⊥
Plays S (q ∷ qs) d [] d' = ⊥
Plays S (q ∷ qs) d (e ∷ fs) d' = (m : Desk) × Step S d e m × ComesTo S q (check_of S q d) d e × Plays S qs m fs d'

-- an accepted round clears as much scratch as its own finder needs; what any other call leaves, its step tells whole
abbrev pub Clears : RangeSpace → Request → Result Unit Refusal → Desk → Desk → Type 0
Clears S to_begin r d d' = Unit {0}
Clears S (to_open k) r d d' = Unit {0}
Clears S (to_round F V) (Ok u) d d' = d'.scratch ≡ cleared (F.need S.points S.ranges) d.scratch
Clears S (to_round F V) (Err e) d d' = Unit {0}
Clears S to_give_up r d d' = Unit {0}

-- calls in order, each with its event and what it clears
abbrev pub PlaysClearing : RangeSpace → List Request → Desk → List Event → Desk → Type 0
PlaysClearing S [] d [] d' = d' ≡ d
PlaysClearing S [] d (e ∷ fs) d' = ⊥
PlaysClearing S (q ∷ qs) d [] d' = ⊥
PlaysClearing S (q ∷ qs) d (e ∷ fs) d' =
    (m : Desk) × Step S d e m × ComesTo S q (check_of S q d) d e × Clears S q (check_of S q d) d m × PlaysClearing S qs m fs d'

-- whatever history led to a desk goes on with these events, and the laws hold all along
abbrev pub GoesOn : RangeSpace → Desk → List Event → Desk → Type 0
GoesOn S before fs after = (es : List Event) → History S es before → (h : History S (reverse fs ++ es) after) × Along h

-- a list of calls performed, so many of them accepted
abbrev pub AllPerformed : RangeSpace → List Request → Desk → Desk → ℕ → Type 0
AllPerformed S qs before after accepted =
    (fs : List Event) × Plays S qs before fs after × (accepted_in fs ≡ accepted) × GoesOn S before fs after

-- the same, with the scratch fixed to its last byte
abbrev pub AllPerformedClearing : RangeSpace → List Request → Desk → Desk → ℕ → Type 0
AllPerformedClearing S qs before after accepted =
    (fs : List Event) × PlaysClearing S qs before fs after × (accepted_in fs ≡ accepted) × GoesOn S before fs after

-- a round's net and answer are its finder's and its verifier's; refused, it leaves all as it was
abbrev pub RoundDone : FinderMeaning → VerifierMeaning → RangeSpace → Result Unit Refusal → Desk → Desk → Type 0
RoundDone F V S (Ok u) before after =
    (o : Option ℕ) × F.nets S (guess_of before.state.phase).k before.weights after.marks × V.picks S after.marks before.weights o
    × (after ≡ round_desk S (F.need S.points S.ranges) before after.marks o)
RoundDone F V S (Err e) before after = after ≡ before

-- what a call of the code asks for, by what its finder and its verifier promise
abbrev pub request_of : {F V : Type 0} → (F → FinderMeaning) → (V → VerifierMeaning) → Call F V → Request
request_of finder verifier Begin = to_begin
request_of finder verifier (calls.Open k) = to_open k
request_of finder verifier (Round f v) = to_round (finder f.now) (verifier v.now)
request_of finder verifier GiveUp = to_give_up

abbrev pub requests : {F V : Type 0} → (F → FinderMeaning) → (V → VerifierMeaning) → List (Call F V) → List Request
requests finder verifier [] = []
requests finder verifier (c ∷ cs) = request_of finder verifier c ∷ requests finder verifier cs
