-- A guess played to its verdict, as a part of a placement.
use Rattle.std.proofs.Common.{◌≡◌, ℕ, ◌+◌, ◌*◌, ◌<◌, ◌≤◌, min, false, List, [], ◌∷◌, ◌++◌, length, take, drop, Ok, sym, refl, ap, ◌∙◌, subst, inr, arith, length-append}
use Rattle.std.specs.List.{AllByRecursion}
use Rattle.std.proofs.lemmas.List.{take-map, drop-drop, drop_at, append_assoc, length-take-le}
use Rattle.std.proofs.lemmas.Bool.{cond-false, ne_eqb}
use Rattle.ranges.specs.declared.number.RangeNumber.{RangeNumber}
use Rattle.ranges.specs.Spaces.{RangeSpace, Within}
use Rattle.nets.specs.Finders.{FinderMeaning}
use Rattle.nets.specs.Verifiers.{VerifierMeaning}
use Rattle.guesses.specs.Books.{book_lines}
use Rattle.guesses.specs.Limits.{limit_of}
use Rattle.guesses.proofs.Limits.{limit_le}
use Rattle.ledgers.specs.Doublings.{NeedsMore}
use Rattle.ledgers.specs.Replays.{numbers}
use Rattle.runs.specs.Runs.{Desk, blank_state, is_guessing, open_check}
use Rattle.runs.specs.Histories.{Event, guess_in, hit_in, doubled_in, Lawful}
use Rattle.runs.proofs.Laws.{lawful}
use Rattle.sheets.specs.declared.writer.SheetWriter.{SheetWriter}
use Rattle.sheets.specs.Bytes.{put}
use Rattle.sheets.specs.Sheets.{Section, section_bytes, last_guess}
use Rattle.sheets.specs.Writing.{Written, AddKeeps, next_writer}
use Rattle.sheets.proofs.Written.{length_section}
use Rattle.placing.specs.Placements.{Way, next_guess, ranged, ledgers_in, Replays}
use Rattle.placing.specs.Playing.{Fitted, Course, Courses, Ruled, Ready, Story, Settled, Verdict, following}
use Rattle.placing.proofs.Sizes.{ruled_small, room_small, room_next}
use Rattle.placing.proofs.Accepts.{open_accepted}
use Rattle.placing.proofs.Openings.{way_history, open_desk, open_course, WasRuled, WasHit, by_floor, by_no_floor, all_hit, below_all}

ranged_numbers : (rs : List RangeNumber) → ranged (numbers rs) ≡ rs
ranged_numbers [] = refl
ranged_numbers (r ∷ rs) = ap (λ xs. r ∷ xs) (ranged_numbers rs)

-- bytes behind those that are put stay
pub put_rest : (s : List ℕ) (at : ℕ) (bs : List ℕ) → at ≤ length s → drop (at + length bs) (put s at bs) ≡ drop (at + length bs) s
put_rest s at bs inside =
    let front = take at s in
    let behind = drop (at + length bs) s in
    ap (drop (at + length bs)) (sym (append_assoc front bs behind))
    ∙ drop_at (front ++ bs) behind (at + length bs) (length-append front bs ∙ ap (λ n. n + length bs) (length-take-le at s inside))

-- so do those behind a longer front
pub rest_on : (s t : List ℕ) (a b : ℕ) → drop a s ≡ drop a t → drop (a + b) s ≡ drop (a + b) t
rest_on s t a b same = sym (drop-drop b a s) ∙ ap (drop b) same ∙ drop-drop b a t

module _ (F : FinderMeaning) (V : VerifierMeaning) (S : RangeSpace) (k : ℕ) (d : Desk) (w : SheetWriter) (sheet : List ℕ) (within : Within S) (ready : Ready F V S k d w sheet) where
  pub points_some : 0 < S.points
  points_some = let first = all_hit S within ready.full 0 ready.some in omega (arith, (within.inside 0 first.0 first.2).1)

  pub ready_small : (0 < k) × (k ≤ S.points) × (length (book_lines d.state.book) ≤ 12) × (w.len ≤ 22 * S.points + 48)
  ready_small = room_small S.points k (length (book_lines d.state.book)) w.len ready.room points_some within.few_points

  pub ready_open : open_check S d.state k (length d.weights) (length d.ledger) ≡ Ok tt
  ready_open =
      open_accepted S (F.need S.points S.ranges) k d ready.fitted ready.idle ready_small.0 ready_small.1 within.few_points ready.floor (omega (arith, ready_small.2))

  module _ (opened-desk a : Desk) (r : ℕ) (opened-is : opened-desk ≡ open_desk S k d) (courses : Courses F V S opened-desk a r) (closed : is_guessing a.state.phase ≡ false) where
    abbrev count : ℕ
    count = length (book_lines d.state.book)

    module _ (from : Desk) (blank : from.state ≡ blank_state) (es : List Event) (way : Way F V S from es d) (scheduled : k ≡ next_guess S.points (guess_in es)) (unhit : hit_in es ≡ false)
        (whole : length d.state.book.lines ≡ 24) where
      pub played : Course F V S from es k d.state.floor (count + 1) a r
      played = courses from es k d.state.floor (count + 1)
          (subst (λ (x : Desk). Course F V S from es k d.state.floor (count + 1) x 0) (sym opened-is)
          (open_course F V S from es k d way ready_open ready.some unhit scheduled whole (omega (arith, ready_small.2))))

      laws : Lawful S played.events a
      laws = lawful S within played.events a (way_history blank played.way)

      module _ (raised : a.state.floor ≡ k) where
        pub ruled : WasRuled S es k played.events a
        ruled = by_floor S es k d.state.floor played.events a closed played.stands ready.floor raised

        pub fewer : k < S.points
        fewer = below_all S k within ready.full (subst (NeedsMore S) raised (laws.floor (omega (arith, ready_small.0))))

        now_ruled : Ruled S.points k (count + 1) (w.len + (4 + 2 * limit_of S.points k))
        now_ruled = room_next S.points k count w.len ready.room within.few_points fewer

        now_small : (count + 1 ≤ 12) × (w.len + (4 + 2 * limit_of S.points k) ≤ 22 * S.points + 48)
        now_small = ruled_small S.points k (count + 1) (w.len + (4 + 2 * limit_of S.points k)) now_ruled within.few_points

        -- the section of the guess fits
        pub room_left : w.len + (4 + 2 * limit_of S.points k) ≤ 24 * S.points + 320
        room_left = omega (arith, now_small.1)

        -- the ledger's front is the guess's ledger
        numbers_are : numbers (take (limit_of S.points k) a.ledger) ≡ doubled_in played.events
        numbers_are =
            sym (take-map (λ (x : RangeNumber). x.0) (limit_of S.points k) a.ledger) ∙ ap (λ n. take n (numbers a.ledger)) (sym ruled.full) ∙ laws.front

        abbrev section : Section
        section = record { guess = k; lines = take (limit_of S.points k) a.ledger }

        sections_are : ledgers_in S.points played.events ≡ section ∷ ledgers_in S.points es
        sections_are =
            ruled.ledgers
            ∙ ap (λ ls. record { guess = k; lines = ls } ∷ ledgers_in S.points es) (ap ranged (sym numbers_are) ∙ ranged_numbers (take (limit_of S.points k) a.ledger))

        then_is : following S.points k ≡ min (2 * k) S.points
        then_is = cond-false _ _ _ (ne_eqb k 0 (λ e. omega (arith, ready_small.0)))

        next_is : following S.points k ≡ next_guess S.points (guess_in played.events)
        next_is = then_is ∙ sym (ap (next_guess S.points) played.guess)

        module _ (fit : Fitted S (F.need S.points S.ranges) a) (w' : SheetWriter) (sheet' : List ℕ) (writer-is : w' ≡ next_writer w k (take (limit_of S.points k) a.ledger))
            (bytes-are : sheet' ≡ put sheet w.len (section_bytes k (take (limit_of S.points k) a.ledger))) (keeps : AddKeeps (Ok tt) w sheet k (take (limit_of S.points k) a.ledger) w' sheet')
            (long : length sheet' ≡ length sheet) where
          len_is : w'.len ≡ w.len + (4 + 2 * limit_of S.points k)
          len_is =
              let most = limit_le S.points k ready_small.0 ready_small.1 within.few_points in
              ap (λ (x : SheetWriter). x.len) writer-is ∙ ap (λ n. w.len + (4 + 2 * n)) (length-take-le (limit_of S.points k) a.ledger (omega (arith, fit.ledger)))

          ready_next : Ready F V S (following S.points k) a w' sheet'
          ready_next =
              let lines = played.lines_are in
              record {
                fitted = fit;
                idle = ruled.idle;
                floor = let above = fewer in let some = ready_small.0 in omega (arith, raised, then_is);
                room = inr (k, subst (λ (c : ℕ). Ruled S.points k c w'.len) (sym lines) (subst (Ruled S.points k (count + 1)) (sym len_is) now_ruled), then_is);
                long = omega (arith, ready.long);
                full = ready.full;
                some = ready.some;
                past = (from, played.events, blank, played.way, next_is, ruled.unhit, played.book);
              }

          pub settled_ruled : Settled F V S k a w' sheet'
          settled_ruled = record {
            fitted = fit;
            onward = λ _. (fewer, ready_next);
            short = omega (arith, len_is, now_small.1);
            lines = omega (arith, played.lines_are, now_small.0);
          }

          pub story_ruled : (sheet₀ : List ℕ) (rounds : ℕ) → Story F V S from sheet₀ rounds es d w sheet → Verdict F V S from sheet₀ k (rounds + r) a w' sheet'
          story_ruled sheet₀ rounds story =
              let bs = section_bytes k (take (limit_of S.points k) a.ledger) in
              let end : w'.len ≡ w.len + length bs = ap (λ (x : SheetWriter). x.len) writer-is ∙ ap (λ n. w.len + n) (sym (length_section k (take (limit_of S.points k) a.ledger))) in
              let inside : w.len ≤ length sheet = omega (arith, ready_small.3, ready.long) in
              let now : Story F V S from sheet₀ (rounds + r) played.events a w' sheet' = record {
                way = played.way;
                rounds_are = omega (arith, story.rounds_are, played.rounds_are);
                floor_is = raised ∙ sym (ap last_guess ruled.ledgers);
                written = subst (Written w' sheet') (sym sections_are) (keeps (ledgers_in S.points es) story.written);
                rest = ap (λ n. drop n sheet') end ∙ ap (drop (w.len + length bs)) bytes-are ∙ put_rest sheet w.len bs inside ∙ rest_on sheet sheet₀ w.len (length bs) story.rest ∙ ap (λ n. drop n sheet₀) (sym end);
                replays = subst (AllByRecursion (Replays S)) (sym sections_are) (laws.certified k section.lines played.guess ruled.full numbers_are, story.replays);
              } in
              ((λ _. (played.events, now, next_is, ruled.unhit, played.book)), (λ other. absurd (other raised)))

      module _ (other : a.state.floor ≡ k → ⊥) where
        hit_now : WasHit S es d.state.floor played.events a
        hit_now = by_no_floor S es k d.state.floor played.events a closed played.stands other

        pub settled_hit : Fitted S (F.need S.points S.ranges) a → Settled F V S k a w sheet
        settled_hit fit = record {
          fitted = fit;
          onward = λ e. absurd (other e);
          short = ready_small.3;
          lines = omega (arith, played.lines_are, ready_small.2);
        }

        pub story_hit : (sheet₀ : List ℕ) (rounds : ℕ) → Story F V S from sheet₀ rounds es d w sheet → Verdict F V S from sheet₀ k (rounds + r) a w sheet
        story_hit sheet₀ rounds story =
            let same = hit_now.ledgers in
            let now : Story F V S from sheet₀ (rounds + r) played.events a w sheet = record {
              way = played.way;
              rounds_are = omega (arith, story.rounds_are, played.rounds_are);
              floor_is = hit_now.same_floor ∙ story.floor_is ∙ ap last_guess (sym same);
              written = subst (Written w sheet) (sym same) story.written;
              rest = story.rest;
              replays = subst (AllByRecursion (Replays S)) (sym same) story.replays;
            } in
            ((λ e. absurd (other e)), (λ _. (played.events, now, (k, hit_now.bound, hit_now.net, hit_now.earlier, played.guess, hit_now.is, hit_now.marks))))
