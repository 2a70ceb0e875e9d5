-- Opening a guess by the schedule, and what its course comes to.
use Rattle.std.proofs.Common.{◌≡◌, ℕ, ◌+◌, ◌<◌, true, false, List, [], ◌∷◌, length, None, Ok, Result, sym, refl, ap, ◌∙◌, subst, arith}
use Rattle.std.proofs.lemmas.List.{length_push}
use Rattle.std.proofs.lemmas.Bool.{both_ways, not-false}
use Rattle.ranges.specs.Spaces.{RangeSpace, Within}
use Rattle.ranges.specs.Below.{count_below}
use Rattle.ranges.specs.Weights.{missed, hit, lowest_missed, HitsAll}
use Rattle.ranges.proofs.Searches.{least_absent}
use Rattle.ranges.proofs.Hits.{hit_gives}
use Rattle.ranges.proofs.Sums.{count_front}
use Rattle.nets.specs.Finders.{FinderMeaning}
use Rattle.nets.specs.Verifiers.{VerifierMeaning}
use Rattle.guesses.specs.declared.book.Verdict.TheVariants.{Open}
use Rattle.guesses.specs.Books.{book_lines}
use Rattle.guesses.specs.Limits.{limit_of}
use Rattle.guesses.proofs.Books.{added_lines, added_whole}
use Rattle.ledgers.specs.Doublings.{ones, NeedsMore}
use Rattle.ledgers.proofs.Doublings.{ones_long, total_ones}
use Rattle.runs.specs.declared.state.OpenGuess.{OpenGuess}
use Rattle.runs.specs.declared.state.State.{State}
use Rattle.ranges.specs.declared.refusal.Refusal.{Refusal}
use Rattle.runs.specs.declared.state.Phase.TheVariants.{Idle, Guessing}
use Rattle.runs.specs.Runs.{Desk, is_guessing, blank_state, open_check, open_state, line_of, accepted}
use Rattle.runs.specs.Histories.{Event, opened, judged, opens, History, start, next, guess_in, doubled_in, hit_in}
use Rattle.placing.specs.Placements.{Way, here, on, next_guess, ranged, ledgers_in}
use Rattle.placing.specs.Playing.{Fitted, Stands, still_open, was_hit, was_ruled, Course}

-- a way from a blank run is a history
pub way_history : {F : FinderMeaning} {V : VerifierMeaning} {S : RangeSpace} {from : Desk} {es : List Event} {d : Desk} → from.state ≡ blank_state → Way F V S from es d → History S es d
way_history {S = S} {from = from} blank here =
    let is : from ≡ record { state = blank_state; weights = from.weights; marks = from.marks; ledger = from.ledger; scratch = from.scratch } =
    (λ i. record { state = blank i; weights = from.weights; marks = from.marks; ledger = from.ledger; scratch = from.scratch }) in
    subst (History S []) (sym is) (start from.weights from.marks from.ledger from.scratch)
way_history blank (on w s t) = next (way_history blank w) s

-- the desk with guess k opened
abbrev pub open_desk : RangeSpace → ℕ → Desk → Desk
open_desk S k d = record { state = open_state d.state k; weights = ones S.points; marks = d.marks; ledger = d.ledger; scratch = d.scratch }

-- an accepted open leaves that desk
pub opened_is : (S : RangeSpace) (k : ℕ) (before : Desk) (st : State) (ws : List ℕ) (r : Result Unit Refusal) → r ≡ Ok tt → st ≡ accepted r (open_state before.state k) before.state → ws ≡ accepted r (ones S.points) before.weights
    → ◌≡◌ {A = Desk} (record { state = st; weights = ws; marks = before.marks; ledger = before.ledger; scratch = before.scratch }) (open_desk S k before)
opened_is S k before st ws r ok state weights =
    let st-is = state ∙ ap (λ (x : Result Unit Refusal). accepted x (open_state before.state k) before.state) ok in
    let ws-is = weights ∙ ap (λ (x : Result Unit Refusal). accepted x (ones S.points) before.weights) ok in
    (λ i. record { state = st-is i; weights = ws-is i; marks = before.marks; ledger = before.ledger; scratch = before.scratch })

pub open_fitted : (S : RangeSpace) (need k : ℕ) (d : Desk) → Fitted S need d → Fitted S need (open_desk S k d)
open_fitted S need k d fit = record {
  points = fit.points;
  ranges = fit.ranges;
  weights = ones_long S.points;
  marks = fit.marks;
  ledger = fit.ledger;
  scratch = fit.scratch;
  whole = λ _. total_ones S.points ∙ fit.points;
}

pub open_course : (F : FinderMeaning) (V : VerifierMeaning) (S : RangeSpace) (from : Desk) (es : List Event) (k : ℕ) (d : Desk) → Way F V S from es d → open_check S d.state k (length d.weights) (length d.ledger) ≡ Ok tt
    → 0 < S.ranges → hit_in es ≡ false → k ≡ next_guess S.points (guess_in es) → length d.state.book.lines ≡ 24 → length (book_lines d.state.book) < 24
    → Course F V S from es k d.state.floor (length (book_lines d.state.book) + 1) (open_desk S k d) 0
open_course F V S from es k d way check some unhit scheduled whole room =
    let line = line_of k 0 Open in
    record {
      events = opened k ∷ es;
      way = on way (opens check) (some, unhit, scheduled);
      guess = refl;
      rounds_are = omega arith;
      book = added_whole d.state.book line whole;
      some = omega arith;
      lines_are = ap length (added_lines d.state.book line whole room) ∙ length_push (book_lines d.state.book) line;
      stands = still_open _ refl refl refl refl refl refl;
    }

-- what a closed guess came to
pub record WasRuled (S : RangeSpace) (old : List Event) (k : ℕ) (es : List Event) (d : Desk) : Type 0 where
  pub idle : d.state.phase ≡ Idle
  pub unhit : hit_in es ≡ false
  pub full : length (doubled_in es) ≡ limit_of S.points k
  pub ledgers : ledgers_in S.points es ≡ record { guess = k; lines = ranged (doubled_in es) } ∷ ledgers_in S.points old

pub record WasHit (S : RangeSpace) (old : List Event) (floor : ℕ) (es : List Event) (d : Desk) : Type 0 where
  pub bound : ℕ
  pub net : List ℕ
  pub earlier : List Event
  pub is : es ≡ judged bound net None ∷ earlier
  pub marks : d.marks ≡ net
  pub same_floor : d.state.floor ≡ floor
  pub ledgers : ledgers_in S.points es ≡ ledgers_in S.points old

module _ (S : RangeSpace) (old : List Event) (k floor : ℕ) (es : List Event) (d : Desk) (closed : is_guessing d.state.phase ≡ false) where
  not_open : {A : Type 0} (g : OpenGuess) → d.state.phase ≡ Guessing g → A
  not_open g is = absurd (both_ways (is_guessing d.state.phase) closed (ap is_guessing is))

  pub by_floor : Stands S old k floor es d → floor < k → d.state.floor ≡ k → WasRuled S old k es d
  by_floor (still_open g is_open k-is lines_are unhit floor_is ledgers-are) below raised = not_open g is_open
  by_floor (was_hit b ms earlier idle is marks floor_is ledgers-are) below raised = absurd (omega arith)
  by_floor (was_ruled idle unhit full floor_is ledgers-are) below raised = record { idle = idle; unhit = unhit; full = full; ledgers = ledgers-are }

  pub by_no_floor : Stands S old k floor es d → (d.state.floor ≡ k → ⊥) → WasHit S old floor es d
  by_no_floor (still_open g is_open k-is lines_are unhit floor_is ledgers-are) other = not_open g is_open
  by_no_floor (was_hit b ms earlier idle is marks floor_is ledgers-are) other = record { bound = b; net = ms; earlier = earlier; is = is; marks = marks; same_floor = floor_is; ledgers = ledgers-are }
  by_no_floor (was_ruled idle unhit full floor_is ledgers-are) other = absurd (other floor_is)

-- all points hit every range, so a guess that is ruled out is below n
pub all_hit : (S : RangeSpace) → Within S → lowest_missed S (λ _. true) ≡ None → HitsAll S (λ _. true)
all_hit S within none = λ j l.
    hit_gives S within (λ _. true) j (not-false (hit S (λ _. true) j) (least_absent (missed S (λ _. true)) S.ranges none j l))

pub below_all : (S : RangeSpace) (k : ℕ) → Within S → lowest_missed S (λ _. true) ≡ None → NeedsMore S k → k < S.points
below_all S k within none more =
    let n = S.points in
    let all : count_below (λ _. true) n ≡ n = count_front (λ _. true) n n (omega arith) (λ i l. refl) (λ i from l. absurd (omega arith)) in
    omega (arith, more (λ _. true) (all_hit S within none))
