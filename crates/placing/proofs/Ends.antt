-- The end of a placement: its sheet, its numbers, and what it is worth.
use Rattle.std.proofs.Common.{◌≡◌, ℕ, ◌+◌, ◌*◌, ◌<◌, ◌≤◌, Bool, true, false, cond, not, ◌||◌, eqb, ltb, List, [], ◌∷◌, ◌++◌, length, take, drop, replicate, Some, None, Ok, Err, Option, Result, sym, refl, ap, ◌∙◌, subst, inl, inr, arith, length-append, take-append-drop}
use Rattle.std.proofs.lemmas.List.{length-take-le, length-replicate, get_or-replicate}
use Rattle.std.proofs.lemmas.Bool.{cases_lt, cond-true, ltb-false, both_ways, eq-eqb}
use Rattle.ranges.specs.declared.number.RangeNumber.{RangeNumber}
use Rattle.ranges.specs.declared.refusal.Refusal.{Refusal}
use Rattle.ranges.specs.declared.refusal.Refusal.TheVariants.{WrongLength, LedgerLength, ShortScratch, ShortBuffer}
use Rattle.ranges.specs.Refusals.{unless}
use Rattle.ranges.specs.Spaces.{RangeSpace, Within}
use Rattle.ranges.specs.Below.{count_below}
use Rattle.ranges.specs.Weights.{marked, chosen, lowest_missed, HitsAll}
use Rattle.ranges.proofs.Checks.{unless_ok, neither_other}
use Rattle.ranges.proofs.Sums.{sum_part, sum_zero}
use Rattle.nets.specs.Finders.{FinderMeaning}
use Rattle.nets.specs.Verifiers.{VerifierMeaning}
use Rattle.guesses.specs.declared.book.GuessLine.{GuessLine}
use Rattle.guesses.specs.Books.{book_lines}
use Rattle.guesses.specs.Limits.{limit_of}
use Rattle.ledgers.specs.Doublings.{NeedsMore}
use Rattle.runs.specs.declared.state.State.{State}
use Rattle.runs.specs.Runs.{Desk, blank_state, begun_state, empty_check, begin_check, is_guessing, guess_of, line_of}
use Rattle.runs.specs.Histories.{Event, begun, judged, Step, judges, begins, Lawful, HitRight, guess_in, hit_in, doubled_in, last_line, last_verdict}
use Rattle.runs.proofs.Laws.{lawful, along}
use Rattle.runs.proofs.Rounds.{passed}
use Rattle.sheets.specs.declared.writer.SheetWriter.{SheetWriter}
use Rattle.sheets.specs.Bytes.{put, numbers_bytes}
use Rattle.sheets.specs.Trailers.{trailer_bytes}
use Rattle.sheets.specs.Sheets.{book_bytes, chosen_points}
use Rattle.sheets.specs.Writing.{begun as begunWriter, Written, close_answer, end_bytes, end_length, end_trailer, no_room}
use Rattle.sheets.specs.RoundTrip.{AllReadBack, ReadsBack}
use Rattle.sheets.proofs.ReadBack.{length_book, length_numbers}
use Rattle.sheets.proofs.Points.{length_chosen_le}
use Rattle.placing.specs.Placements.{Way, here, on, ledgers_in, place_check, bare_first, clean_marks, Finished, placed_sheet, Placement, Worth}
use Rattle.placing.specs.Playing.{Ready, Story, Ahead, Placeable, points_in}
use Rattle.placing.proofs.Openings.{way_history}
use Rattle.placing.proofs.Stories.{put_rest, rest_on}

-- an accepted close answers where the sheet ends
pub close_length : (w : SheetWriter) (s : List ℕ) (ls : List GuessLine) (floor n : ℕ) (ms : List ℕ) → Ok n ≡ close_answer w s ls floor ms → n ≡ w.len + end_length ls ms
close_length w s ls floor n ms is = by_tests (ltb 4096 (length ms)) (no_room s (w.len + end_length ls ms)) (eqb floor w.guess) _ _ _ (w.len + end_length ls ms) is
  where
    by_tests : (a b c : Bool) (x y z : SheetWriter × Refusal) (m : ℕ) → ◌≡◌ {A = Result ℕ (SheetWriter × Refusal)} (Ok n) (cond a (Err x) (cond b (Err y) (cond c (Ok m) (Err z)))) → n ≡ m
    by_tests true b c x y z m e = let f : ◌≡◌ {A = ℕ} 0 1 = cc in absurd (omega arith)
    by_tests false true c x y z m e = let f : ◌≡◌ {A = ℕ} 0 1 = cc in absurd (omega arith)
    by_tests false false true x y z m e = cc
    by_tests false false false x y z m e = let f : ◌≡◌ {A = ℕ} 0 1 = cc in absurd (omega arith)

length_end : (w : SheetWriter) (ls : List GuessLine) (floor : ℕ) (ms : List ℕ) → length (end_bytes w ls floor ms) ≡ end_length ls ms
length_end w ls floor ms =
    let B = book_bytes ls in
    let P = numbers_bytes (chosen_points ms) in
    let T = trailer_bytes (end_trailer w ls floor ms) in
    omega (arith, length-append B (P ++ T), length-append P T, length_book ls, length_numbers (chosen_points ms))

-- book, points and trailer have room
pub end_room : (n lines len sheet : ℕ) (ls : List GuessLine) (ms : List ℕ) → length ls ≤ 13 → length ms ≡ n → n ≤ 4096 → len ≤ 22 * n + 48 → 24 * n + 320 ≤ sheet
    → (len + end_length ls ms ≤ sheet) × (len + end_length ls ms ≤ 2147483648)
end_room n lines len sheet ls ms few long points short room =
    let chosen-few = length_chosen_le ms (length ms) in
    (omega arith, omega arith)

-- the sheet of a placement, byte by byte
module _ (F : FinderMeaning) (V : VerifierMeaning) (S : RangeSpace) (from d : Desk) (es : List Event) (w : SheetWriter) (sheet sheet₀ sheet' : List ℕ) (rounds len : ℕ)
    (story : Story F V S from sheet₀ rounds es d w sheet) (len_is : len ≡ w.len + end_length (book_lines d.state.book) d.marks)
    (fits : w.len + end_length (book_lines d.state.book) d.marks ≤ length sheet) (same-long : length sheet' ≡ length sheet)
    (bytes-are : sheet' ≡ put sheet w.len (end_bytes w (book_lines d.state.book) d.state.floor d.marks))
    (back : AllReadBack (w.len + end_length (book_lines d.state.book) d.marks) w sheet (book_lines d.state.book) d.state.floor d.marks sheet') where
  reads : ReadsBack (ledgers_in S.points es) (book_lines d.state.book) d.state.floor d.marks (take len sheet')
  reads = subst (λ (x : ℕ). ReadsBack (ledgers_in S.points es) (book_lines d.state.book) d.state.floor d.marks (take x sheet')) (sym len_is) (back (ledgers_in S.points es) story.written)

  pub sheet_length : len ≡ length (placed_sheet S es d)
  sheet_length = sym (length-take-le len sheet' (omega arith)) ∙ ap length reads.whole

  behind : drop len sheet' ≡ drop len sheet₀
  behind =
      let end = end_bytes w (book_lines d.state.book) d.state.floor d.marks in
      let at : len ≡ w.len + length end = omega (arith, len_is, length_end w (book_lines d.state.book) d.state.floor d.marks) in
      ap (λ n. drop n sheet') at ∙ ap (drop (w.len + length end)) bytes-are ∙ put_rest sheet w.len end (omega arith) ∙ rest_on sheet sheet₀ w.len (length end) story.rest ∙ ap (λ n. drop n sheet₀) (sym at)

  pub sheet_bytes_lem : sheet' ≡ placed_sheet S es d ++ drop (length (placed_sheet S es d)) sheet₀
  sheet_bytes_lem =
      sym (take-append-drop len sheet') ∙ (λ i. reads.whole i ++ behind i) ∙ ap (λ n. placed_sheet S es d ++ drop n sheet₀) sheet_length

  pub placement : (points floor count : ℕ) → points ≡ chosen d.marks → floor ≡ d.state.floor → count ≡ rounds → Finished S es → Placement F V S from d es sheet₀ sheet' points floor count len
  placement points floor count points_are floor_is count-is finished = record {
    way = story.way;
    finished = finished;
    points_are = points_are;
    floor_is = floor_is;
    rounds_are = count-is ∙ story.rounds_are;
    length_is = sheet_length;
    sheet_is = sheet_bytes_lem;
  }

  pub worth : Within S → from.state ≡ blank_state → HitsAll S (marked d.marks) → ((k : ℕ) → guess_in es ≡ Some k → chosen d.marks ≤ F.bound S.points S.ranges k) → Worth F S d es sheet' len
  worth within blank hits few =
      let h = way_history blank story.way in
      let laws = lawful S within es d h in
      record {
        lawful = (h, along S within h);
        hits = hits;
        few = few;
        floor = λ some. above_floor some laws.floor;
        replays = story.replays;
        read = reads.back;
      }
    where
      -- a set that hits a range has a point
      has_one : 0 < S.ranges → NeedsMore S 0
      has_one some P all =
          let first = all 0 some in
          let inside = (within.inside 0 first.0 first.2).1 in
          let one : cond {A = ℕ} (P first.0) 1 0 ≡ 1 = cond-true _ _ _ first.1 in
          omega (arith, sum_part (λ i. cond (P i) 1 0) S.points first.0 inside)

      above_floor : 0 < S.ranges → (0 < d.state.floor → NeedsMore S d.state.floor) → NeedsMore S d.state.floor
      above_floor some law = elim (cases_lt 0 d.state.floor) [
        | inl l ↦ law l
        | inr le ↦ (let none : 0 ≡ d.state.floor = omega arith in subst (NeedsMore S) none (has_one some))
      ]

pub step_open : (S : RangeSpace) {b : ℕ} {ms : List ℕ} {o : Option ℕ} {d d' : Desk} → Step S d (judged b ms o) d' → is_guessing d.state.phase ≡ true
step_open S (judges {d} need check net answer) = (passed S d.state d.weights (length d.marks) (length d.ledger) (length d.scratch) need check).open_guess

-- the net of the last round, by its finder's bound
last_bound : (F : FinderMeaning) (V : VerifierMeaning) (S : RangeSpace) (from d : Desk) (b : ℕ) (ms : List ℕ) (es : List Event) → Within S → from.state ≡ blank_state → Way F V S from (judged b ms None ∷ es) d
    → (k : ℕ) → guess_in es ≡ Some k → b ≡ F.bound S.points S.ranges k
last_bound F V S from d b ms es within blank (on {d = was} way step turn) k guess =
    let is = ((lawful S within es was (way_history blank way)).unfinished (step_open S step)).0 in
    let same : (guess_of was.state.phase).k ≡ k = cc in
    turn.0 ∙ ap (F.bound S.points S.ranges) same

-- what a hit gives
module _ (F : FinderMeaning) (V : VerifierMeaning) (S : RangeSpace) (from d : Desk) (es : List Event) (within : Within S) (blank : from.state ≡ blank_state) (way : Way F V S from es d)
    (k b : ℕ) (ms : List ℕ) (earlier : List Event) (guess : guess_in es ≡ Some k) (es-is : es ≡ judged b ms None ∷ earlier) (marks-are : d.marks ≡ ms) where
  laws : Lawful S es d
  laws = lawful S within es d (way_history blank way)

  pub hit_points_lem : points_in (last_line (book_lines d.state.book)) ≡ chosen d.marks
  hit_points_lem =
      ap points_in (laws.told k guess)
      ∙ ap (λ (x : List Event). points_in (Some (line_of k (length (doubled_in es)) (last_verdict (limit_of S.points k) x)))) es-is
      ∙ ap chosen (sym marks-are)

  pub hit_right : HitsAll S (marked d.marks) × (chosen d.marks ≤ b)
  hit_right = subst (λ (x : List Event). HitRight S x d) es-is laws.hit

  pub hit_few : (l : ℕ) → guess_in es ≡ Some l → chosen d.marks ≤ F.bound S.points S.ranges l
  hit_few l is =
      let bound = last_bound F V S from d b ms earlier within blank (subst (λ (x : List Event). Way F V S from x d) es-is way) l (sym (ap guess_in es-is) ∙ is) in
      omega (arith, hit_right.1)

  pub hit_finished : 0 < S.ranges → Finished S es
  hit_finished some = ((λ none. absurd (omega arith)), (λ _. ap hit_in es-is))

-- a placement that has just begun
module _ (F : FinderMeaning) (V : VerifierMeaning) (S : RangeSpace) (ws ms : List ℕ) (ledger : List RangeNumber) (scratch sheet : List ℕ) (within : Within S)
    (able : Placeable F S (length ws) ms (length ledger) (length scratch) (length sheet)) where
  abbrev from : Desk
  from = record { state = blank_state; weights = ws; marks = ms; ledger = ledger; scratch = scratch }

  -- the same buffers, with a run in this state
  abbrev now_at : State → Desk
  now_at st = record { state = st; weights = ws; marks = ms; ledger = ledger; scratch = scratch }

  check : begin_check S blank_state ≡ Ok tt
  check = ap empty_check able.full

  begin_way : Way F V S from (begun ∷ []) (now_at (begun_state S))
  begin_way = on here (begins check) refl

  module _ (st : State) (w : SheetWriter) (st-is : st ≡ begun_state S) (w-is : w ≡ begunWriter) (written : Written w sheet []) where
    pub begin_story : Story F V S from sheet 0 (begun ∷ []) (now_at st) w sheet
    begin_story = subst (λ (x : State). Story F V S from sheet 0 (begun ∷ []) (now_at x) w sheet) (sym st-is) (record { way = begin_way; rounds_are = refl; floor_is = refl; written = written; rest = refl; replays = tt })

    pub begin_ahead : Ahead F V S from sheet 1 0 (now_at st) w sheet
    begin_ahead = (begun ∷ [], begin_story, refl, refl, ap (λ (x : State). length x.book.lines) st-is)

    pub begin_ready : 0 < S.ranges → Ready F V S 1 (now_at st) w sheet
    begin_ready some = subst (λ (x : State). Ready F V S 1 (now_at x) w sheet) (sym st-is) (record {
      fitted = record {
        points = refl;
        ranges = refl;
        weights = able.weights_long;
        marks = able.marks_long;
        ledger = able.lines;
        scratch = able.enough;
        whole = λ e. absurd (both_ways true (sym e) refl);
      };
      idle = refl;
      floor = omega arith;
      room = inl (refl, refl, ap (λ (x : SheetWriter). x.len) w-is);
      long = able.room;
      full = able.full;
      some = some;
      past = (from, begun ∷ [], refl, begin_way, refl, refl, refl);
    })

-- the writer's last guess is the floor
pub story_floor : (F : FinderMeaning) (V : VerifierMeaning) (S : RangeSpace) (from d : Desk) (sheet₀ sheet : List ℕ) (rounds : ℕ) (es : List Event) (w : SheetWriter) → Story F V S from sheet₀ rounds es d w sheet → d.state.floor ≡ w.guess
story_floor F V S origin d sheet₀ sheet rounds es w story = story.floor_is ∙ ap (λ (x : SheetWriter). x.guess) (sym story.written.writer)

-- no point is marked where all bytes are 0
pub clean_none : (S : RangeSpace) (ms : List ℕ) → S.ranges ≡ 0 → chosen (clean_marks S ms) ≡ 0
clean_none S ms none = ap chosen (cond-true _ _ _ (eq-eqb S.ranges 0 none)) ∙ zero_chosen (length ms)
  where
    zero_chosen : (n : ℕ) → chosen (replicate n 0) ≡ 0
    zero_chosen n =
        ap (count_below (marked (replicate n 0))) (length-replicate {A = ℕ} n 0)
        ∙ sum_zero (λ i. cond (marked (replicate n 0) i) 1 0) n (λ i l. ap (λ x. cond (eqb x 1) 1 0) (get_or-replicate n i 0 0 l))

-- place's checks came out accepted
pub checked : (F : FinderMeaning) (S : RangeSpace) (weights marks ledger scratch sheet : ℕ) (ms : List ℕ) → place_check S (F.need S.points S.ranges) weights marks ledger scratch sheet ≡ Ok tt → length ms ≡ marks
    → (S.ranges ≡ 0 → chosen ms ≡ 0) → Placeable F S weights ms ledger scratch sheet
checked F S weights marks ledger scratch sheet ms is long clean =
    let need = F.need S.points S.ranges in
    let last = unless (ltb sheet (24 * S.points + 320)) ShortBuffer (Ok tt) in
    let third = unless (ltb scratch need) ShortScratch last in
    let second = unless (ltb ledger (3 * S.points)) LedgerLength third in
    let first = unless (not (eqb weights S.points) || not (eqb marks S.points)) WrongLength second in
    let none = bare_none (lowest_missed S (λ _. true)) first is in
    let a = unless_ok (not (eqb weights S.points) || not (eqb marks S.points)) WrongLength second tt none.1 in
    let b = unless_ok (ltb ledger (3 * S.points)) LedgerLength third tt a.1 in
    let c = unless_ok (ltb scratch need) ShortScratch last tt b.1 in
    let e = unless_ok (ltb sheet (24 * S.points + 320)) ShortBuffer (Ok tt) tt c.1 in
    let both = neither_other weights S.points marks S.points a.0 in
    record {
      full = none.0;
      weights_long = both.0;
      marks_long = long ∙ both.1;
      lines = ltb-false ledger (3 * S.points) b.0;
      enough = ltb-false scratch need c.0;
      room = ltb-false sheet (24 * S.points + 320) e.0;
      clean = clean;
    }
  where
    bare_none : (o : Option ℕ) (next : Result Unit Refusal) → bare_first o next ≡ Ok tt → (o ≡ None) × (next ≡ Ok tt)
    bare_none None next e = (refl, e)
    bare_none (Some j) next e = let z : ◌≡◌ {A = ℕ} 0 1 = cc in absurd (omega arith)
