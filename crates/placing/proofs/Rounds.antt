-- A round takes a guess one round further on its course.
use Rattle.std.proofs.Common.{◌≡◌, ℕ, ◌+◌, ◌-◌, ◌*◌, ◌<◌, ◌≤◌, true, ◌⊎◌, List, [], ◌∷◌, ◌++◌, length, drop, set, replicate, Some, None, Ok, Option, sym, refl, ap, ◌∙◌, subst, inl, inr, arith, length-append}
use Rattle.std.proofs.lemmas.List.{length_push, length-set, length-drop, length-replicate}
use Rattle.std.proofs.lemmas.Bool.{cases_Bool, cond-true, cond-false, both_ways, eqb-true, eqb-false, eq-eqb, ne_eqb}
use Rattle.ranges.specs.declared.number.RangeNumber.{RangeNumber}
use Rattle.ranges.specs.Spaces.{RangeSpace, Within}
use Rattle.ranges.specs.Weights.{range_weight}
use Rattle.nets.specs.Finders.{FinderMeaning, FinderSound, Asked}
use Rattle.nets.specs.Verifiers.{VerifierMeaning, VerifierSound}
use Rattle.guesses.specs.declared.book.GuessLine.{GuessLine}
use Rattle.guesses.specs.declared.book.Book.{Book}
use Rattle.guesses.specs.Books.{book_lines, book_rewritten}
use Rattle.guesses.specs.Limits.{limit_of}
use Rattle.guesses.proofs.Books.{rewritten_lines, rewritten_whole}
use Rattle.guesses.proofs.Limits.{limit_le}
use Rattle.ledgers.specs.Doublings.{doubled}
use Rattle.ledgers.proofs.Doublings.{doubled_long, total_doubled}
use Rattle.runs.specs.declared.state.OpenGuess.{OpenGuess}
use Rattle.runs.specs.declared.state.State.{State}
use Rattle.runs.specs.declared.state.Phase.{Phase}
use Rattle.runs.specs.declared.state.Phase.TheVariants.{Idle, Guessing}
use Rattle.runs.specs.Runs.{Desk, is_guessing, guess_of, round_check, round_desk, rules_out, miss_state, cleared, SomeGuess, FewGuess, FewPoints, Unfinished, GrownTotal}
use Rattle.runs.specs.Histories.{Event, judged, doubled_in, RoundDone}
use Rattle.runs.proofs.Performs.{round_step}
use Rattle.runs.proofs.Rounds.{guess_small}
use Rattle.placing.specs.Placements.{Way, on, ledgers_in, with_ledger, ranged}
use Rattle.placing.specs.Playing.{Fitted, Stands, still_open, was_hit, was_ruled, Course, Counted, turns_left}

-- an open guess, by its phase
pub open_phase : (p : Phase) (g : OpenGuess) → p ≡ Guessing g → guess_of p ≡ g
open_phase p g is = ap guess_of is

shut : {A : Type 0} (p : Phase) → p ≡ Idle → is_guessing p ≡ true → A
shut p idle o = absurd (both_ways (is_guessing p) (ap is_guessing idle) o)

-- the buffers fit after a round
module _ (S : RangeSpace) (need : ℕ) (d : Desk) (fit : Fitted S need d) (o : is_guessing d.state.phase ≡ true) (ms : List ℕ) (long : length ms ≡ S.points) where
  scratch_long : need ≤ length (cleared need d.scratch)
  scratch_long = omega (arith, length-append (replicate {A = ℕ} need 0) (drop need d.scratch), length-replicate {A = ℕ} need 0, length-drop need d.scratch)

  hit_fitted : Fitted S need (round_desk S need d ms None)
  hit_fitted = record {
    points = fit.points;
    ranges = fit.ranges;
    weights = fit.weights;
    marks = long;
    ledger = fit.ledger;
    scratch = scratch_long;
    whole = λ e. shut Idle refl e;
  }

  -- the desk with the state that a round leaves which missed range j
  abbrev left : ℕ → State → Desk
  left j x = record {
    state = x;
    weights = doubled S j d.weights;
    marks = ms;
    ledger = set d.ledger (guess_of d.state.phase).doublings (record { 0 = j });
    scratch = cleared need d.scratch;
  }

  ledger_long : (j : ℕ) → 3 * S.points ≤ length (left j d.state).ledger
  ledger_long j = omega (arith, fit.ledger, length-set {A = RangeNumber} d.ledger (guess_of d.state.phase).doublings (record { 0 = j }))

  miss_fitted : (j : ℕ) → Fitted S need (round_desk S need d ms (Some j))
  miss_fitted j = elim (cases_Bool (rules_out d.state.n (guess_of d.state.phase).k ((guess_of d.state.phase).doublings + 1))) [
    | inl last ↦ subst (λ (x : State). Fitted S need (left j x)) (sym (cond-true _ _ _ last)) (record {
      points = fit.points;
      ranges = fit.ranges;
      weights = doubled_long S j d.weights ∙ fit.weights;
      marks = long;
      ledger = ledger_long j;
      scratch = scratch_long;
      whole = λ e. shut Idle refl e;
    })
    | inr goes_on ↦ subst (λ (x : State). Fitted S need (left j x)) (sym (cond-false _ _ _ goes_on)) (record {
      points = fit.points;
      ranges = fit.ranges;
      weights = doubled_long S j d.weights ∙ fit.weights;
      marks = long;
      ledger = ledger_long j;
      scratch = scratch_long;
      whole = λ _. total_doubled S j d.weights fit.weights ∙ ap (λ w. w + range_weight S d.weights j) (fit.whole o);
    })
  ]

  pub round_fitted : (m : Option ℕ) → Fitted S need (round_desk S need d ms m)
  round_fitted None = hit_fitted
  round_fitted (Some j) = miss_fitted j

-- a round that missed nothing
module _ (F : FinderMeaning) (V : VerifierMeaning) (S : RangeSpace) (from : Desk) (old : List Event) (k floor lines : ℕ) (d : Desk) (rounds : ℕ) (c : Course F V S from old k floor lines d rounds)
    (same : S.points ≡ d.state.n) (g : OpenGuess) (is_open : d.state.phase ≡ Guessing g) (k-is : g.k ≡ k) (lines_are : length (doubled_in c.events) ≡ g.doublings)
    (floor_is : d.state.floor ≡ floor) (ledgers-are : ledgers_in S.points c.events ≡ ledgers_in S.points old) where
  -- the book with its last line anew
  book_lines_lem : (l : GuessLine) → length (book_lines (book_rewritten d.state.book l)) ≡ lines
  book_lines_lem l =
      let some : 0 < length (book_lines d.state.book) = omega (arith, c.some, c.lines_are) in
      ap length (rewritten_lines d.state.book l c.book some) ∙ length-set (book_lines d.state.book) _ l ∙ c.lines_are

  book_whole : (l : GuessLine) → length (book_rewritten d.state.book l).lines ≡ 24
  book_whole l = rewritten_whole d.state.book l c.book

  hit_course : (need bound : ℕ) (ms : List ℕ) → Way F V S from (judged bound ms None ∷ c.events) (round_desk S need d ms None) → Course F V S from old k floor lines (round_desk S need d ms None) (rounds + 1)
  hit_course need bound ms way = record {
    events = judged bound ms None ∷ c.events;
    way = way;
    guess = c.guess;
    rounds_are = omega (arith, c.rounds_are);
    book = book_whole _;
    some = c.some;
    lines_are = book_lines_lem _;
    stands = was_hit bound ms c.events refl refl refl floor_is ledgers-are;
  }

  -- the ledger has one line more
  line_more : (j : ℕ) → length (doubled_in c.events ++ j ∷ []) ≡ g.doublings + 1
  line_more j = length_push (doubled_in c.events) j ∙ ap (λ x. x + 1) lines_are

  sections : (bound j : ℕ) (ms : List ℕ) → ledgers_in S.points (judged bound ms (Some j) ∷ c.events) ≡ with_ledger S.points (Some k) (doubled_in c.events ++ j ∷ []) (ledgers_in S.points c.events)
  sections bound j ms = ap (λ x. with_ledger S.points x (doubled_in c.events ++ j ∷ []) (ledgers_in S.points c.events)) c.guess

  last_course : (need bound j : ℕ) (ms : List ℕ) → g.doublings + 1 ≡ limit_of S.points k → {d' : Desk} → Way F V S from (judged bound ms (Some j) ∷ c.events) d'
      → d'.state.phase ≡ Idle → d'.state.floor ≡ k → (l : GuessLine) → d'.state.book ≡ book_rewritten d.state.book l → Course F V S from old k floor lines d' (rounds + 1)
  last_course need bound j ms full way idle raised l book = record {
    events = judged bound ms (Some j) ∷ c.events;
    way = way;
    guess = c.guess;
    rounds_are = omega (arith, c.rounds_are);
    book = ap (λ (b : Book). length b.lines) book ∙ book_whole l;
    some = c.some;
    lines_are = ap (λ b. length (book_lines b)) book ∙ book_lines_lem l;
    stands = was_ruled idle refl (line_more j ∙ full) raised
        (sections bound j ms ∙ cond-true _ _ _ (eq-eqb (length (doubled_in c.events ++ j ∷ [])) (limit_of S.points k) (line_more j ∙ full)) ∙ ap (λ ss. record { guess = k; lines = ranged (doubled_in c.events ++ j ∷ []) } ∷ ss) ledgers-are);
  }

  on_course : (need bound j : ℕ) (ms : List ℕ) → (g.doublings + 1 ≡ limit_of S.points k → ⊥) → {d' : Desk} → Way F V S from (judged bound ms (Some j) ∷ c.events) d'
      → (h : OpenGuess) → d'.state.phase ≡ Guessing h → h.k ≡ g.k → h.doublings ≡ g.doublings + 1 → d'.state.floor ≡ d.state.floor → (l : GuessLine) → d'.state.book ≡ book_rewritten d.state.book l
      → Course F V S from old k floor lines d' (rounds + 1)
  on_course need bound j ms early way h guessing same-k one_more kept l book = record {
    events = judged bound ms (Some j) ∷ c.events;
    way = way;
    guess = c.guess;
    rounds_are = omega (arith, c.rounds_are);
    book = ap (λ (b : Book). length b.lines) book ∙ book_whole l;
    some = c.some;
    lines_are = ap (λ b. length (book_lines b)) book ∙ book_lines_lem l;
    stands = still_open h guessing (same-k ∙ k-is) (line_more j ∙ sym one_more) refl (kept ∙ floor_is)
        (sections bound j ms ∙ cond-false _ _ _ (ne_eqb (length (doubled_in c.events ++ j ∷ [])) (limit_of S.points k) (λ e. early (sym (line_more j) ∙ e))) ∙ ledgers-are);
  }

-- a round on a desk that fits, accepted, with the net and the answer that it came to
module _ (F : FinderMeaning) (V : VerifierMeaning) (S : RangeSpace) (d d' : Desk) (finder : FinderSound F) (verifier : VerifierSound V) (within : Within S)
    (some : SomeGuess d.state) (few : FewGuess d.state) (points : FewPoints d.state) (early : Unfinished d.state) (grown : GrownTotal d.state)
    (fit : Fitted S (F.need S.points S.ranges) d) (o : is_guessing d.state.phase ≡ true)
    (check : Ok tt ≡ round_check S d.state d.weights (length d.marks) (length d.ledger) (length d.scratch) (F.need S.points S.ranges))
    (done : RoundDone F V S (Ok tt) d d') where
  asked : Asked S (guess_of d.state.phase).k d.weights
  asked = record {
    within = within;
    long = fit.weights;
    some = some o;
    few = omega (arith, few o, fit.points);
    small = omega (arith, fit.whole o, guess_small d.state some few points early grown o);
  }

  marks_long : length d'.marks ≡ S.points
  marks_long = (finder S (guess_of d.state.phase).k d.weights d'.marks asked done.1).long

  pub next_fitted : Fitted S (F.need S.points S.ranges) d'
  next_fitted = subst (Fitted S (F.need S.points S.ranges)) (sym done.3) (round_fitted S (F.need S.points S.ranges) d fit o d'.marks marks_long done.0)

  -- the doublings of the open guess stay below 3·n
  few_doublings : (guess_of d.state.phase).doublings < 12288
  few_doublings =
      let n = d.state.n in
      let k = (guess_of d.state.phase).k in
      omega (arith, early o, limit_le n k (some o) (few o) (points o), points o)

  -- what the round makes of the state: closed, or open with one doubling more
  Goes : State → Type 0
  Goes st = (st.phase ≡ Idle) ⊎ ((g : OpenGuess) × (st.phase ≡ Guessing g) × (g.doublings ≡ (guess_of d.state.phase).doublings + 1))

  abbrev missed : ℕ → State
  missed j = miss_state d.state (guess_of d.state.phase) (range_weight S d.weights j)

  goes : (m : Option ℕ) → d' ≡ round_desk S (F.need S.points S.ranges) d d'.marks m → Goes d'.state
  unfolding Goes
  goes None is = inl (ap (λ (x : Desk). x.state.phase) is)
  goes (Some j) is = elim (cases_Bool (rules_out d.state.n (guess_of d.state.phase).k ((guess_of d.state.phase).doublings + 1))) [
    | inl last ↦ inl (ap (λ (x : State). x.phase) (ap (λ (x : Desk). x.state) is ∙ cond-true _ _ _ last))
    | inr goes_on ↦ inr (_, ap (λ (x : State). x.phase) (ap (λ (x : Desk). x.state) is ∙ cond-false _ _ _ goes_on), refl)
  ]

  pub next_counted : (rounds : ℕ) → Counted d rounds → Counted d' (rounds + 1)
  unfolding Goes
  next_counted rounds counted = elim (goes done.0 done.3) [
    | inl idle ↦ ((λ e. shut d'.state.phase idle e), omega (arith, counted.0 o, few_doublings))
    | inr (g, is, more) ↦ ((λ _. omega (arith, ap (λ (x : OpenGuess). x.doublings) (open_phase d'.state.phase g is), more, counted.0 o)), omega (arith, counted.0 o, few_doublings))
  ]

  pub next_turns : turns_left d' < turns_left d
  unfolding Goes
  next_turns =
      let now : turns_left d ≡ 12289 - (guess_of d.state.phase).doublings = cond-true _ _ _ o in
      elim (goes done.0 done.3) [
        | inl idle ↦ (let none : turns_left d' ≡ 0 = cond-false _ _ _ (ap is_guessing idle) in omega (arith, few_doublings))
        | inr (g, is, more) ↦ (let then : turns_left d' ≡ 12289 - (guess_of d'.state.phase).doublings = cond-true _ _ _ (ap is_guessing is) in
            omega (arith, few_doublings, more, ap (λ (x : OpenGuess). x.doublings) (open_phase d'.state.phase g is)))
      ]

  module _ (from : Desk) (old : List Event) (k floor lines rounds : ℕ) (c : Course F V S from old k floor lines d rounds) where
    way_on : Way F V S from (judged (F.bound S.points S.ranges (guess_of d.state.phase).k) d'.marks done.0 ∷ c.events) d'
    way_on =
        on c.way (round_step F V S d d' d'.marks done.0 finder verifier within some few points early grown (sym check) done.1 done.2 done.3) (refl, done.1, done.2, done.3)

    module _ (g : OpenGuess) (is_open : d.state.phase ≡ Guessing g) (k-is : g.k ≡ k) (lines_are : length (doubled_in c.events) ≡ g.doublings) (floor_is : d.state.floor ≡ floor)
        (ledgers-are : ledgers_in S.points c.events ≡ ledgers_in S.points old) where
      g_is : guess_of d.state.phase ≡ g
      g_is = open_phase d.state.phase g is_open

      limit_is : limit_of d.state.n (guess_of d.state.phase).k ≡ limit_of S.points k
      limit_is = λ i. limit_of (sym fit.points i) ((ap (λ (x : OpenGuess). x.k) g_is ∙ k-is) i)

      further : (m : Option ℕ) (bound : ℕ) → d' ≡ round_desk S (F.need S.points S.ranges) d d'.marks m → Way F V S from (judged bound d'.marks m ∷ c.events) d' → Course F V S from old k floor lines d' (rounds + 1)
      further None bound is way =
          subst (λ (x : Desk). Course F V S from old k floor lines x (rounds + 1)) (sym is)
          (hit_course F V S from old k floor lines d rounds c fit.points g is_open k-is lines_are floor_is ledgers-are (F.need S.points S.ranges) bound d'.marks (subst (Way F V S from (judged bound d'.marks None ∷ c.events)) is way))
      further (Some j) bound is way = elim (cases_Bool (rules_out d.state.n (guess_of d.state.phase).k ((guess_of d.state.phase).doublings + 1))) [
        | inl last ↦ (
            let st = ap (λ (x : Desk). x.state) is ∙ cond-true _ _ _ last in
            let full : g.doublings + 1 ≡ limit_of S.points k = ap (λ (x : OpenGuess). x.doublings + 1) (sym g_is) ∙ eqb-true _ _ last ∙ limit_is in
            last_course F V S from old k floor lines d rounds c fit.points g is_open k-is lines_are floor_is ledgers-are (F.need S.points S.ranges) bound j d'.marks full way
            (ap (λ (x : State). x.phase) st) (ap (λ (x : State). x.floor) st ∙ ap (λ (x : OpenGuess). x.k) g_is ∙ k-is) _ (ap (λ (x : State). x.book) st))
        | inr goes_on ↦ (
            let st = ap (λ (x : Desk). x.state) is ∙ cond-false _ _ _ goes_on in
            let not_yet = eqb-false ((guess_of d.state.phase).doublings + 1) (limit_of d.state.n (guess_of d.state.phase).k) goes_on in
            on_course F V S from old k floor lines d rounds c fit.points g is_open k-is lines_are floor_is ledgers-are (F.need S.points S.ranges) bound j d'.marks
            (λ e. not_yet (ap (λ (x : OpenGuess). x.doublings + 1) g_is ∙ e ∙ sym limit_is)) way _ (ap (λ (x : State). x.phase) st) (ap (λ (x : OpenGuess). x.k) g_is) (ap (λ (x : OpenGuess). x.doublings + 1) g_is)
            (ap (λ (x : State). x.floor) st) _ (ap (λ (x : State). x.book) st))
      ]

    by_stand : Stands S old k floor c.events d → Course F V S from old k floor lines d' (rounds + 1)
    by_stand (still_open g is_open k-is lines_are unhit floor_is ledgers-are) = further g is_open k-is lines_are floor_is ledgers-are done.0 _ done.3 way_on
    by_stand (was_hit b ms earlier idle is marks floor_is ledgers-are) = shut d.state.phase idle o
    by_stand (was_ruled idle unhit full floor_is ledgers-are) = shut d.state.phase idle o

    pub next_course : Course F V S from old k floor lines d' (rounds + 1)
    next_course = by_stand c.stands
