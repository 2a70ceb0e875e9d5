-- The laws of runs, by induction over histories.
use Rattle.std.proofs.Common.{◌≡◌, ℕ, ◌+◌, ◌-◌, ◌<◌, ◌≤◌, true, false, not, ◌||◌, eqb, ltb, leb, ◌⊎◌, List, [], ◌∷◌, ◌++◌, length, take, set, Some, None, Ok, Option, sym, refl, ap, ◌∙◌, subst, inl, inr, arith}
use Rattle.std.specs.List.{AllByRecursion}
use Rattle.std.proofs.ByRecursion.{All-push, All-set}
use Rattle.std.proofs.lemmas.List.{length_push, length-map, length-set, map-set, take_more_set}
use Rattle.std.proofs.lemmas.Bool.{cases_Bool, both_ways, lt-ltb, le-ltb, eqb-true, eqb-false, eq-eqb, ne_eqb, leb-false, not-false, cond-true, cond-false, and_from}
use Rattle.ranges.specs.declared.number.RangeNumber.{RangeNumber}
use Rattle.ranges.specs.Spaces.{RangeSpace, Within}
use Rattle.ranges.specs.Weights.{total, range_weight, chosen, lowest_missed}
use Rattle.nets.specs.Finders.{Net}
use Rattle.nets.specs.Verifiers.{Judged}
use Rattle.guesses.specs.declared.book.Verdict.{Verdict}
use Rattle.guesses.specs.declared.book.Verdict.TheVariants.{Open, Hit, RuledOut, GivenUp}
use Rattle.guesses.specs.declared.book.GuessLine.{GuessLine}
use Rattle.guesses.specs.declared.book.Book.{Book}
use Rattle.guesses.specs.Books.{book_lines, book_added, book_rewritten}
use Rattle.guesses.specs.Limits.{limit_of}
use Rattle.guesses.proofs.Books.{added_lines, added_whole, rewritten_lines, rewritten_whole, last_added, last_set}
use Rattle.guesses.proofs.Limits.{limit_pos}
use Rattle.ledgers.specs.Doublings.{doubled, doubled_by, ones, good, AllGood, NeedsMore}
use Rattle.ledgers.specs.Replays.{numbers, replay_answer, replay_check, replayed, and_replay}
use Rattle.ledgers.proofs.Certificates.{full_ledger}
use Rattle.ledgers.proofs.Pushes.{doubled_by_push, good_push}
use Rattle.ledgers.proofs.Replays.{good_accepted}
use Rattle.runs.specs.declared.state.OpenGuess.{OpenGuess}
use Rattle.runs.specs.declared.state.State.{State}
use Rattle.ranges.specs.declared.refusal.Refusal.TheVariants.{RunBegun, RunBlank, OtherSpace, WrongLength, GuessOpen, GuessOutOfRange, GuessNotAboveFloor, BookFull, LedgerLength, NoGuessOpen}
use Rattle.ranges.specs.Refusals.{unless}
use Rattle.ranges.proofs.Checks.{unless_ok}
use Rattle.runs.specs.declared.state.Phase.{Phase}
use Rattle.runs.specs.declared.state.Phase.TheVariants.{Blank, Idle, Guessing}
use Rattle.runs.specs.Runs.{Desk, is_blank, is_guessing, guess_of, line_of, blank_state, empty_check, begin_check, begun_state, other_space, open_check, open_state, round_desk, rules_out, cleared, give_up_check, gave_up_state}
use Rattle.runs.proofs.Rounds.{Passed, passed, missed_light}
use Rattle.runs.proofs.Openings.{open_ready}
use Rattle.runs.specs.Histories.{Event, begun, opened, judged, gave_up, refused, Step, begins, opens, judges, gives_up, refuses, History, start, next, guess_in, rounds, doubled_in, hit_in, last_verdict, last_line, RuledRight, HitRight, Lawful, Along}

-- a guess whose last round reached the limit was hit, or every round missed a range
abbrev Ended : RangeSpace → List Event → ℕ → Type 0
Ended S es k = (hit_in es ≡ true) ⊎ (length (doubled_in es) ≡ limit_of S.points k)

-- what every history keeps of the last guess
record Guessed (S : RangeSpace) (es : List Event) (book : Book) (k : ℕ) : Type 0 where
  some : 0 < k
  few : k ≤ S.points
  all_good : AllGood S k (ones S.points) (doubled_in es)
  limited : rounds es ≤ limit_of S.points k
  line : 0 < length (book_lines book)
  told : last_line (book_lines book) ≡ Some (line_of k (length (doubled_in es)) (last_verdict (limit_of S.points k) es))

-- and of an open one
record Playing (S : RangeSpace) (es : List Event) (ws : List ℕ) (g : OpenGuess) : Type 0 where
  is : guess_in es ≡ Some g.k
  rounds_are : rounds es ≡ g.doublings
  lines_are : length (doubled_in es) ≡ g.doublings
  weights_are : ws ≡ doubled_by S (ones S.points) (doubled_in es)
  early : g.doublings < limit_of S.points g.k

record Kept (S : RangeSpace) (es : List Event) (d : Desk) : Type 0 where
  whole : length d.state.book.lines ≡ 24
  blank : is_blank d.state.phase ≡ true → guess_in es ≡ None
  same : is_blank d.state.phase ≡ false → d.state.n ≡ S.points
  front : take (length (doubled_in es)) (numbers d.ledger) ≡ doubled_in es
  guessed : (k : ℕ) → guess_in es ≡ Some k → Guessed S es d.state.book k
  playing : is_guessing d.state.phase ≡ true → Playing S es d.weights (guess_of d.state.phase)
  ended : is_guessing d.state.phase ≡ false → (k : ℕ) → guess_in es ≡ Some k → rounds es ≡ limit_of S.points k → Ended S es k
  ruled : AllByRecursion (RuledRight S) (book_lines d.state.book)
  floor : 0 < d.state.floor → NeedsMore S d.state.floor

no_guess : {A : Type 0} (es : List Event) (k : ℕ) → guess_in es ≡ None → guess_in es ≡ Some k → A
no_guess es k none some = let z : ◌≡◌ {A = ℕ} 0 1 = cc in absurd (omega arith)

true_false : {A : Type 0} → true ≡ false → A
true_false e = absurd (both_ways true e refl)

false_true : {A : Type 0} → false ≡ true → A
false_true e = absurd (both_ways true (sym e) refl)

started : (S : RangeSpace) (ws ms : List ℕ) (ledger : List RangeNumber) (scratch : List ℕ) → Kept S [] (record { state = blank_state; weights = ws; marks = ms; ledger = ledger; scratch = scratch })
started S ws ms ledger scratch = record {
  whole = refl;
  blank = λ _. refl;
  same = λ e. true_false e;
  front = refl;
  guessed = λ k e. no_guess [] k refl e;
  playing = λ e. false_true e;
  ended = λ _ k e. no_guess [] k refl e;
  ruled = tt;
  floor = λ l. absurd (omega arith);
}

guessing_not_blank : (p : Phase) → is_guessing p ≡ true → is_blank p ≡ false
guessing_not_blank Blank e = false_true e
guessing_not_blank Idle e = false_true e
guessing_not_blank (Guessing g) e = refl

same_guess : (es : List Event) (k l : ℕ) → guess_in es ≡ Some k → guess_in es ≡ Some l → k ≡ l
same_guess es k l a b = cc

module _ (S : RangeSpace) (within : Within S) (es : List Event) (d : Desk) (kept : Kept S es d) where
  -- begin: nothing was guessed before
  begin_kept : begin_check S d.state ≡ Ok tt → Kept S (begun ∷ es) (record { state = begun_state S; weights = d.weights; marks = d.marks; ledger = d.ledger; scratch = d.scratch })
  begin_kept e =
      let none = kept.blank (not-false (is_blank d.state.phase) (unless_ok (not (is_blank d.state.phase)) RunBegun (empty_check (lowest_missed S (λ _. true))) tt e).0) in
      record {
        whole = refl;
        blank = λ f. false_true f;
        same = λ _. refl;
        front = kept.front;
        guessed = λ k f. no_guess es k none f;
        playing = λ f. false_true f;
        ended = λ _ k f. no_guess es k none f;
        ruled = tt;
        floor = λ l. absurd (omega arith);
      }

  -- a refused call changes nothing
  refused_kept : Kept S (refused ∷ es) d
  refused_kept = record {
    whole = kept.whole;
    blank = kept.blank;
    same = kept.same;
    front = kept.front;
    guessed = λ k f. (let g = kept.guessed k f in record { some = g.some; few = g.few; all_good = g.all_good; limited = g.limited; line = g.line; told = g.told });
    playing = λ f. (let p = kept.playing f in record { is = p.is; rounds_are = p.rounds_are; lines_are = p.lines_are; weights_are = p.weights_are; early = p.early });
    ended = kept.ended;
    ruled = kept.ruled;
    floor = kept.floor;
  }

  -- open: a new guess, with no round and no line yet
  open_room : (k weights ledger : ℕ) → open_check S d.state k weights ledger ≡ Ok tt → (is_blank d.state.phase ≡ false) × (length (book_lines d.state.book) < 24)
  open_room k weights ledger e =
      let most = limit_of S.points k in
      let lines = unless (ltb ledger most) LedgerLength (Ok tt) in
      let full = unless (leb 24 (length (book_lines d.state.book))) BookFull lines in
      let room = unless (leb k d.state.floor) GuessNotAboveFloor full in
      let guess = unless (eqb k 0 || ltb S.points k) GuessOutOfRange room in
      let shut = unless (is_guessing d.state.phase) GuessOpen guess in
      let long = unless (not (eqb weights S.points)) WrongLength shut in
      let a = unless_ok (is_blank d.state.phase) RunBlank (unless (other_space S d.state) OtherSpace long) tt e in
      let b = unless_ok (other_space S d.state) OtherSpace long tt a.1 in
      let c = unless_ok (not (eqb weights S.points)) WrongLength shut tt b.1 in
      let f = unless_ok (is_guessing d.state.phase) GuessOpen guess tt c.1 in
      let g = unless_ok (eqb k 0 || ltb S.points k) GuessOutOfRange room tt f.1 in
      let h = unless_ok (leb k d.state.floor) GuessNotAboveFloor full tt g.1 in
      let i = unless_ok (leb 24 (length (book_lines d.state.book))) BookFull lines tt h.1 in
      (a.0, leb-false 24 _ i.0)

  open_kept : (k : ℕ) → open_check S d.state k (length d.weights) (length d.ledger) ≡ Ok tt
      → Kept S (opened k ∷ es) (record { state = open_state d.state k; weights = ones S.points; marks = d.marks; ledger = d.ledger; scratch = d.scratch })
  open_kept k e =
      let ready = open_ready S d.state k (length d.weights) (length d.ledger) within e in
      let room = open_room k (length d.weights) (length d.ledger) e in
      let n-is = kept.same room.0 in
      let line = line_of k 0 Open in
      let lines = added_lines d.state.book line kept.whole room.1 in
      let few : k ≤ S.points = omega (arith, ready.1, n-is) in
      record {
        whole = added_whole d.state.book line kept.whole;
        blank = λ f. false_true f;
        same = λ _. n-is;
        front = refl;
        guessed = λ l f.
            let is : k ≡ l = cc in
            subst (Guessed S (opened k ∷ es) (book_added d.state.book line)) is (record {
              some = ready.0;
              few = few;
              all_good = tt;
              limited = omega arith;
              line = subst (λ (ls : List GuessLine). 0 < length ls) (sym lines) (omega (arith, length_push (book_lines d.state.book) line));
              told = ap last_line lines ∙ last_added (book_lines d.state.book) line;
            });
        playing = λ _. record { is = refl; rounds_are = refl; lines_are = refl; weights_are = refl; early = limit_pos S.points k ready.0 few };
        ended = λ f. true_false f;
        ruled = subst (AllByRecursion (RuledRight S)) (sym lines) (All-push (RuledRight S) (book_lines d.state.book) line kept.ruled (λ f. (let z : ◌≡◌ {A = ℕ} 0 1 = cc in absurd (omega arith))));
        floor = kept.floor;
      }

  -- a guess that is played: its number, and its line rewritten by a verdict
  module _ (open-now : is_guessing d.state.phase ≡ true) (r : ℕ) (v : Verdict) where
    now_lines : book_lines (book_rewritten d.state.book (line_of (guess_of d.state.phase).k r v)) ≡ set (book_lines d.state.book) (length (book_lines d.state.book) - 1) (line_of (guess_of d.state.phase).k r v)
    now_lines = rewritten_lines d.state.book (line_of (guess_of d.state.phase).k r v) kept.whole (kept.guessed _ (kept.playing open-now).is).line

    now_some : 0 < length (book_lines (book_rewritten d.state.book (line_of (guess_of d.state.phase).k r v)))
    now_some = omega (arith, ap length now_lines, length-set (book_lines d.state.book) (length (book_lines d.state.book) - 1) (line_of (guess_of d.state.phase).k r v), (kept.guessed _ (kept.playing open-now).is).line)

    now_told : last_line (book_lines (book_rewritten d.state.book (line_of (guess_of d.state.phase).k r v))) ≡ Some (line_of (guess_of d.state.phase).k r v)
    now_told = ap last_line now_lines ∙ last_set (book_lines d.state.book) (line_of (guess_of d.state.phase).k r v) (kept.guessed _ (kept.playing open-now).is).line

    now_ruled : (v ≡ RuledOut → NeedsMore S (guess_of d.state.phase).k) → AllByRecursion (RuledRight S) (book_lines (book_rewritten d.state.book (line_of (guess_of d.state.phase).k r v)))
    now_ruled right = subst (AllByRecursion (RuledRight S)) (sym now_lines) (All-set (RuledRight S) (book_lines d.state.book) (length (book_lines d.state.book) - 1) (line_of (guess_of d.state.phase).k r v) right kept.ruled)

  -- the guess that is played, by its number
  played : (k : ℕ) (open-now : is_guessing d.state.phase ≡ true) → guess_in es ≡ Some k → (guess_of d.state.phase).k ≡ k
  played k open-now f = same_guess es (guess_of d.state.phase).k k (kept.playing open-now).is f

  give_up_kept : give_up_check d.state ≡ Ok tt → Kept S (gave_up ∷ es) (record { state = gave_up_state d.state; weights = d.weights; marks = d.marks; ledger = d.ledger; scratch = d.scratch })
  give_up_kept e =
      let rest = unless (not (is_guessing d.state.phase)) NoGuessOpen (Ok tt) in
      let o = not-false (is_guessing d.state.phase) (unless_ok (not (is_guessing d.state.phase)) NoGuessOpen (Ok tt) tt (unless_ok (is_blank d.state.phase) RunBlank rest tt e).1).0 in
      let p = kept.playing o in
      let g = guess_of d.state.phase in
      record {
        whole = rewritten_whole d.state.book (line_of g.k g.doublings GivenUp) kept.whole;
        blank = λ f. false_true f;
        same = λ _. kept.same (guessing_not_blank d.state.phase o);
        front = kept.front;
        guessed = λ k f.
            let old = kept.guessed k f in
            let k-is = played k o f in
            record {
              some = old.some;
              few = old.few;
              all_good = old.all_good;
              limited = old.limited;
              line = now_some o g.doublings GivenUp;
              told = now_told o g.doublings GivenUp ∙ (λ i. Some (line_of (k-is i) (sym p.lines_are i) GivenUp));
            };
        playing = λ f. false_true f;
        ended = λ _ k f full. absurd (omega (arith, p.rounds_are, p.early, ap (limit_of S.points) (played k o f), full));
        ruled = now_ruled o g.doublings GivenUp (λ f. (let z : ◌≡◌ {A = ℕ} 0 1 = cc in absurd (omega arith)));
        floor = kept.floor;
      }

  -- a round that missed nothing
  hit_kept : (need bound : ℕ) (ms : List ℕ) → Passed S d.state d.weights (length d.marks) (length d.ledger) (length d.scratch) need → Kept S (judged bound ms None ∷ es) (round_desk S need d ms None)
  hit_kept need bound ms pass =
      let o = pass.open_guess in
      let p = kept.playing o in
      let g = guess_of d.state.phase in
      let v = Hit (chosen ms) in
      record {
        whole = rewritten_whole d.state.book (line_of g.k g.doublings v) kept.whole;
        blank = λ f. false_true f;
        same = λ _. kept.same (guessing_not_blank d.state.phase o);
        front = kept.front;
        guessed = λ k f.
            let old = kept.guessed k f in
            let k-is = played k o f in
            record {
              some = old.some;
              few = old.few;
              all_good = old.all_good;
              limited = omega (arith, p.rounds_are, p.early, ap (limit_of S.points) k-is);
              line = now_some o g.doublings v;
              told = now_told o g.doublings v ∙ (λ i. Some (line_of (k-is i) (sym p.lines_are i) v));
            };
        playing = λ f. false_true f;
        ended = λ _ k f full. inl refl;
        ruled = now_ruled o g.doublings v (λ f. (let z : ◌≡◌ {A = ℕ} 0 1 = cc in absurd (omega arith)));
        floor = kept.floor;
      }

  -- a round that missed range j
  module _ (need bound : ℕ) (ms : List ℕ) (j : ℕ) (pass : Passed S d.state d.weights (length d.marks) (length d.ledger) (length d.scratch) need)
      (net : Net S (guess_of d.state.phase).k d.weights bound ms) (answer : Judged S ms (Some j)) where
    -- the missed range was light
    line_good : good S (guess_of d.state.phase).k d.weights j ≡ true
    line_good =
        and_from _ _ (lt-ltb j S.ranges answer.0)
        (ap not (le-ltb (total d.weights) _ (missed_light S (guess_of d.state.phase).k d.weights ms bound j net answer.0 answer.1)))

    good_now : (k : ℕ) → (guess_of d.state.phase).k ≡ k → guess_in es ≡ Some k → AllGood S k (ones S.points) (doubled_in es ++ j ∷ [])
    good_now k k-is f =
        good_push S k (ones S.points) (doubled_in es) j (kept.guessed k f).all_good
        ((λ i. good S (sym k-is i) (sym (kept.playing pass.open_guess).weights_are i) j) ∙ line_good)

    long_now : length (doubled_in es ++ j ∷ []) ≡ (guess_of d.state.phase).doublings + 1
    long_now = length_push (doubled_in es) j ∙ ap (λ x. x + 1) (kept.playing pass.open_guess).lines_are

    rounds_now : rounds es + 1 ≡ (guess_of d.state.phase).doublings + 1
    rounds_now = ap (λ x. x + 1) (kept.playing pass.open_guess).rounds_are

    weights_now : doubled S j d.weights ≡ doubled_by S (ones S.points) (doubled_in es ++ j ∷ [])
    weights_now = ap (doubled S j) (kept.playing pass.open_guess).weights_are ∙ sym (doubled_by_push S (ones S.points) (doubled_in es) j)

    -- the ledger's front is one line longer
    front_now : take (length (doubled_in es ++ j ∷ [])) (numbers (set d.ledger (guess_of d.state.phase).doublings (record { 0 = j }))) ≡ doubled_in es ++ j ∷ []
    front_now =
        let r = (guess_of d.state.phase).doublings in
        let p = kept.playing pass.open_guess in
        let inside : r < length (numbers d.ledger) = omega (arith, p.early, pass.lines, length-map d.ledger (λ (x : RangeNumber). x.0)) in
        ap (λ xs. take (length (doubled_in es ++ j ∷ [])) xs) (map-set (λ (x : RangeNumber). x.0) d.ledger r (record { 0 = j }))
        ∙ ap (λ n. take n (set (numbers d.ledger) r j)) long_now
        ∙ take_more_set (numbers d.ledger) r j inside
        ∙ ap (λ n. take n (numbers d.ledger) ++ j ∷ []) (sym p.lines_are)
        ∙ ap (λ xs. xs ++ j ∷ []) kept.front

    n_same : d.state.n ≡ S.points
    n_same = kept.same (guessing_not_blank d.state.phase pass.open_guess)

    -- the desk with the state that the round leaves
    abbrev left : State → Desk
    left x = record {
      state = x;
      weights = doubled S j d.weights;
      marks = ms;
      ledger = set d.ledger (guess_of d.state.phase).doublings (record { 0 = j });
      scratch = cleared need d.scratch;
    }

    -- the round that reaches the limit rules the guess out
    last_kept : rules_out d.state.n (guess_of d.state.phase).k ((guess_of d.state.phase).doublings + 1) ≡ true
        → Kept S (judged bound ms (Some j) ∷ es) (left (record {
          phase = Idle;
          n = d.state.n;
          m = d.state.m;
          floor = (guess_of d.state.phase).k;
          book = book_rewritten d.state.book (line_of (guess_of d.state.phase).k ((guess_of d.state.phase).doublings + 1) RuledOut);
        }))
    last_kept last =
        let o = pass.open_guess in
        let p = kept.playing o in
        let g = guess_of d.state.phase in
        let r = g.doublings + 1 in
        let full : g.doublings + 1 ≡ limit_of S.points g.k = eqb-true _ _ last ∙ ap (λ n. limit_of n g.k) n_same in
        let more = full_ledger S g.k (doubled_in es ++ j ∷ []) within (kept.guessed _ p.is).some (kept.guessed _ p.is).few (long_now ∙ full) (good_now g.k refl p.is) in
        record {
          whole = rewritten_whole d.state.book (line_of g.k r RuledOut) kept.whole;
          blank = λ f. false_true f;
          same = λ _. n_same;
          front = front_now;
          guessed = λ k f.
              let old = kept.guessed k f in
              let k-is = played k o f in
              let verdict : last_verdict (limit_of S.points k) (judged bound ms (Some j) ∷ es) ≡ RuledOut = cond-true _ _ _ (eq-eqb (length (doubled_in es) + 1) (limit_of S.points k) (omega (arith, p.lines_are, full, ap (limit_of S.points) k-is))) in
              record {
                some = old.some;
                few = old.few;
                all_good = good_now k k-is f;
                limited = omega (arith, rounds_now, full, ap (limit_of S.points) k-is);
                line = now_some o r RuledOut;
                told = now_told o r RuledOut ∙ (λ i. Some (line_of (k-is i) (sym long_now i) (sym verdict i)));
              };
          playing = λ f. false_true f;
          ended = λ _ k f reached. inr (long_now ∙ full ∙ ap (limit_of S.points) (played k o f));
          ruled = now_ruled o r RuledOut (λ _. more);
          floor = λ _. more;
        }

    -- any other lets it go on
    on_kept : rules_out d.state.n (guess_of d.state.phase).k ((guess_of d.state.phase).doublings + 1) ≡ false
        → Kept S (judged bound ms (Some j) ∷ es) (left (record {
          phase = Guessing (record { k = (guess_of d.state.phase).k; doublings = (guess_of d.state.phase).doublings + 1; total = (guess_of d.state.phase).total + range_weight S d.weights j });
          n = d.state.n;
          m = d.state.m;
          floor = d.state.floor;
          book = book_rewritten d.state.book (line_of (guess_of d.state.phase).k ((guess_of d.state.phase).doublings + 1) Open);
        }))
    on_kept goes_on =
        let o = pass.open_guess in
        let p = kept.playing o in
        let g = guess_of d.state.phase in
        let r = g.doublings + 1 in
        let limits = ap (λ n. limit_of n g.k) n_same in
        let not_yet = eqb-false (g.doublings + 1) (limit_of d.state.n g.k) goes_on in
        let early-now : g.doublings + 1 < limit_of S.points g.k = omega (arith, p.early, not_yet, limits) in
        record {
          whole = rewritten_whole d.state.book (line_of g.k r Open) kept.whole;
          blank = λ f. false_true f;
          same = λ _. n_same;
          front = front_now;
          guessed = λ k f.
              let old = kept.guessed k f in
              let k-is = played k o f in
              let verdict : last_verdict (limit_of S.points k) (judged bound ms (Some j) ∷ es) ≡ Open = cond-false _ _ _ (ne_eqb (length (doubled_in es) + 1) (limit_of S.points k) (λ e. omega (arith, e, p.lines_are, early-now, ap (limit_of S.points) k-is))) in
              record {
                some = old.some;
                few = old.few;
                all_good = good_now k k-is f;
                limited = omega (arith, rounds_now, early-now, ap (limit_of S.points) k-is);
                line = now_some o r Open;
                told = now_told o r Open ∙ (λ i. Some (line_of (k-is i) (sym long_now i) (sym verdict i)));
              };
          playing = λ _. record { is = p.is; rounds_are = rounds_now; lines_are = long_now; weights_are = weights_now; early = early-now };
          ended = λ f. true_false f;
          ruled = now_ruled o r Open (λ f. (let z : ◌≡◌ {A = ℕ} 0 1 = cc in absurd (omega arith)));
          floor = kept.floor;
        }

    miss_kept : Kept S (judged bound ms (Some j) ∷ es) (round_desk S need d ms (Some j))
    miss_kept =
        elim (cases_Bool (rules_out d.state.n (guess_of d.state.phase).k ((guess_of d.state.phase).doublings + 1))) [
          | inl last ↦ subst (λ (x : State). Kept S (judged bound ms (Some j) ∷ es) (left x)) (sym (cond-true _ _ _ last)) (last_kept last)
          | inr goes_on ↦ subst (λ (x : State). Kept S (judged bound ms (Some j) ∷ es) (left x)) (sym (cond-false _ _ _ goes_on)) (on_kept goes_on)
        ]

  round_kept : (need bound : ℕ) (ms : List ℕ) (o : Option ℕ) → Passed S d.state d.weights (length d.marks) (length d.ledger) (length d.scratch) need
      → Net S (guess_of d.state.phase).k d.weights bound ms → Judged S ms o → Kept S (judged bound ms o ∷ es) (round_desk S need d ms o)
  round_kept need bound ms None pass net answer = hit_kept need bound ms pass
  round_kept need bound ms (Some j) pass net answer = miss_kept need bound ms j pass net answer

step_kept : (S : RangeSpace) → Within S → {es : List Event} {d d' : Desk} {e : Event} → Kept S es d → Step S d e d' → Kept S (e ∷ es) d'
step_kept S within {es} kept (begins {d} c) = begin_kept S within es d kept c
step_kept S within {es} kept (opens {d} {k} c) = open_kept S within es d kept k c
step_kept S within {es} kept (judges {d} need {bound} {ms} {o} c net answer) =
    round_kept S within es d kept need bound ms o (passed S d.state d.weights (length d.marks) (length d.ledger) (length d.scratch) need c) net answer
step_kept S within {es} kept (gives_up {d} c) = give_up_kept S within es d kept c
step_kept S within {es} kept (refuses {d}) = refused_kept S within es d kept

history_kept : (S : RangeSpace) → Within S → {es : List Event} {d : Desk} → History S es d → Kept S es d
history_kept S within (start ws ms ledger scratch) = started S ws ms ledger scratch
history_kept S within (next h s) = step_kept S within (history_kept S within h) s

judged_right : (S : RangeSpace) (es : List Event) (d : Desk) (need bound k : ℕ) (ws ms : List ℕ) (o : Option ℕ) → Net S k ws bound ms → Judged S ms o → HitRight S (judged bound ms o ∷ es) (round_desk S need d ms o)
judged_right S es d need bound k ws ms None net answer = (answer, net.few)
judged_right S es d need bound k ws ms (Some j) net answer = tt

step_right : (S : RangeSpace) (es : List Event) {d d' : Desk} {e : Event} → Step S d e d' → HitRight S (e ∷ es) d'
step_right S es (begins c) = tt
step_right S es (opens c) = tt
step_right S es (judges {d} need {bound} {ms} {o} c net answer) = judged_right S es d need bound _ _ ms o net answer
step_right S es (gives_up c) = tt
step_right S es refuses = tt

hit_right : (S : RangeSpace) {es : List Event} {d : Desk} → History S es d → HitRight S es d
hit_right S (start ws ms ledger scratch) = tt
hit_right S (next {es} h s) = step_right S es s

-- replay accepts a full ledger of good lines
certificate : (S : RangeSpace) (k : ℕ) (js : List ℕ) (ledger : List RangeNumber) → 0 < k → k ≤ S.points → AllGood S k (ones S.points) js → length js ≡ limit_of S.points k → numbers ledger ≡ js → replay_answer S k ledger S.points ≡ Ok tt
certificate S k js ledger some few all full is =
    let lines : length ledger ≡ limit_of S.points k = sym (length-map ledger (λ (x : RangeNumber). x.0)) ∙ ap length is ∙ full in
    let right : replay_check S k (length ledger) S.points ≡ Ok tt =
    cond-false _ _ _ (ap not (eq-eqb S.points S.points refl))
    ∙ cond-false _ _ _ ((λ i. ne_eqb k 0 (λ e. omega arith) i || le-ltb S.points k few i))
    ∙ cond-false _ _ _ (ap not (eq-eqb (length ledger) _ lines)) in
    ap (λ x. and_replay x (replayed S k 0 (ones S.points) ledger)) right
    ∙ good_accepted S k 0 (ones S.points) ledger (subst (AllGood S k (ones S.points)) (sym is) all)

-- the laws hold of every history
pub lawful : (S : RangeSpace) → Within S → (es : List Event) (d : Desk) → History S es d → Lawful S es d
lawful S within es d h =
    let kept = history_kept S within h in
    record {
      unfinished = λ o. (let p = kept.playing o in (p.is, omega (arith, p.rounds_are, p.early), p.lines_are ∙ sym p.rounds_are));
      front = kept.front;
      limited = λ k f. (kept.guessed k f).limited;
      closes = closed_at kept;
      told = λ k f. (kept.guessed k f).told;
      ruled_out = kept.ruled;
      floor = kept.floor;
      certified = λ k ledger f full is. (let g = kept.guessed k f in certificate S k (doubled_in es) ledger g.some g.few g.all_good full is);
      hit = hit_right S h;
      found = λ k f full fits. elim (kept.ended (closed_at kept k f full) k f full) [
        | inl hit ↦ hit
        | inr all ↦ (
            let g = kept.guessed k f in
            let more = full_ledger S k (doubled_in es) within g.some g.few all g.all_good fits.0 fits.1 in
            absurd (omega (arith, more, fits.2)))
      ];
    }
  where
    -- the round that reaches the limit leaves no guess open
    closed_at : Kept S es d → (k : ℕ) → guess_in es ≡ Some k → rounds es ≡ limit_of S.points k → is_guessing d.state.phase ≡ false
    closed_at kept k f full = elim (cases_Bool (is_guessing d.state.phase)) [
      | inl o ↦ (let p = kept.playing o in absurd (omega (arith, p.rounds_are, p.early, ap (limit_of S.points) (same_guess es _ k p.is f), full)))
      | inr shut ↦ shut
    ]

pub along : (S : RangeSpace) → Within S → {es : List Event} {d : Desk} (h : History S es d) → Along h
along S within (start ws ms ledger scratch) = lawful S within [] _ (start ws ms ledger scratch)
along S within (next {es} {d} {d'} {e} h s) = (lawful S within (e ∷ es) d' (next h s), along S within h)
