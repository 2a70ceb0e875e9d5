use Rattle.std.proofs.Common.{◌≡◌, ℕ, Result, ◌<◌, [], ◌∷◌, length, sym, refl, ap, ◌∙◌, rules, arith}
use Rattle.ranges.specs.Weights.{chosen}
use Rattle.guesses.specs.Books.{book_lines}
use Rattle.runs.specs.declared.state.State.{State}
use Rattle.runs.specs.Desks.{desk}
use Rattle.runs.specs.Runs.{Desk, blank_state, begun_state, accepted}
use Rattle.ranges.specs.declared.refusal.Refusal.{Refusal}
use Rattle.runs.specs.Histories.{begun, last_line}
use Rattle.sheets.specs.declared.writer.SheetWriter.{SheetWriter}
use Rattle.placing.specs.Playing.{points_in}
use Rattle.placing.proofs.Ends.{end_room, placement, worth, hit_points_lem, hit_right, hit_few, hit_finished, begin_story, begin_ahead, begin_ready, story_floor}
use Rattle.placing.proofs.place.place_checked.Goals as goal

ranges-some : (r m : ℕ) → r ≡ m → (r ≡ 0 → ⊥) → 0 < m
ranges-some r m is some = omega arith

pub finish-requires : goal.finish-requires
finish-requires g c =
    let S = g.S.Space.meaning c.args.s.now in
    let few = (g.met.S.Space.within c.args.s.now).few_points in
    let st-is : c.begin.new.self.state ≡ begun_state S = (c.begin.ensures.state ∙ ap (λ (r : Result Unit Refusal). accepted r (begun_state (g.S.Space.meaning c.args.s.now)) c.new-run.result.state) c.unwrap.ensures) in
    let none : length (book_lines c.begin.new.self.state.book) ≡ 0 = ap (λ (x : State). length (book_lines x.book)) st-is in
    let len : c.begin-writer.result.len ≡ 0 = ap (λ (x : SheetWriter). x.len) c.begin-writer.ensures.value in
    let room = end_room S.points 0 c.begin-writer.result.len (length c.args.sheet.now) (book_lines c.begin.new.self.state.book) c.args.buffers.now.marks.now (omega arith) c.requires.marks_long few (omega arith) c.requires.room in
    record {
      marks = omega (arith, c.requires.marks_long);
      room = room.0;
      short = room.1;
      floor = ap (λ (x : State). x.floor) st-is ∙ sym (ap (λ (x : SheetWriter). x.guess) c.begin-writer.ensures.value);
    }

pub returns-then-ranges-eq0 : goal.returns-then-ranges-eq0
returns-then-ranges-eq0 g c =
    let S = g.S.Space.meaning c.args.s.now in
    let F = g.F.Finder.promise c.args.f.now in
    let V = g.V.Verifier.promise c.args.v.now in
    let ws = c.args.buffers.now.weights.now in
    let ms = c.args.buffers.now.marks.now in
    let ledger = c.args.buffers.now.ledger.now in
    let scratch = c.args.buffers.now.scratch.now in
    let sheet = c.args.sheet.now in
    let within = g.met.S.Space.within c.args.s.now in
    let st = c.begin.new.self.state in
    let w = c.begin-writer.result in
    let st-is : st ≡ begun_state S = (c.begin.ensures.state ∙ ap (λ (r : Result Unit Refusal). accepted r (begun_state (g.S.Space.meaning c.args.s.now)) c.new-run.result.state) c.unwrap.ensures) in
    let none : length (book_lines st.book) ≡ 0 = ap (λ (x : State). length (book_lines x.book)) st-is in
    let len : w.len ≡ 0 = ap (λ (x : SheetWriter). x.len) c.begin-writer.ensures.value in
    let bare : S.ranges ≡ 0 = sym c.ranges-2.ensures ∙ c.if-ranges-eq0.true in
    let room = end_room S.points 0 w.len (length sheet) (book_lines st.book) ms (omega arith) c.requires.marks_long within.few_points (omega arith) c.requires.room in
    let story = begin_story F V S ws ms ledger scratch sheet within c.requires st w st-is c.begin-writer.ensures.value (c.begin-writer.ensures.written sheet) in
    let from : Desk = record { state = blank_state; weights = ws; marks = ms; ledger = ledger; scratch = scratch } in
    let d : Desk = record { state = st; weights = ws; marks = ms; ledger = ledger; scratch = scratch } in
    let after = c.finish.new.sheet in
    let r = c.finish.result in
    let e = c.finish.ensures in
    let same : length after ≡ length sheet = omega arith in
    let points : r.0 ≡ chosen ms = e.points ∙ ap (λ (x : State). points_in (last_line (book_lines x.book))) st-is ∙ sym (c.requires.clean bare) in
    record {
      lent = search rules;
      placed = (
        st,
        begun ∷ [],
        placement F V S from d (begun ∷ []) w sheet sheet after 0 r.3 story e.length room.0 same e.bytes e.back r.0 r.1 r.2 points e.floor e.rounds ((λ _. refl), (λ some. absurd (omega arith))),
        worth F V S from d (begun ∷ []) w sheet sheet after 0 r.3 story e.length room.0 same e.bytes e.back within refl (λ j l. absurd (omega arith)) (λ k is. (let z : ◌≡◌ {A = ℕ} 0 1 = cc in absurd (omega arith))),
      );
    }

pub play_guesses-rounds-requires : goal.play_guesses-rounds-requires
play_guesses-rounds-requires g c =
    let S = g.S.Space.meaning c.args.s.now in
    let F = g.F.Finder.promise c.args.f.now in
    let V = g.V.Verifier.promise c.args.v.now in
    let some : 0 < S.ranges = ranges-some c.ranges-2.result S.ranges c.ranges-2.ensures c.if-ranges-eq0.false in
    begin_ready F V S c.args.buffers.now.weights.now c.args.buffers.now.marks.now c.args.buffers.now.ledger.now c.args.buffers.now.scratch.now c.args.sheet.now (g.met.S.Space.within c.args.s.now) c.requires c.begin.new.self.state c.begin-writer.result
    (c.begin.ensures.state ∙ ap (λ (r : Result Unit Refusal). accepted r (begun_state (g.S.Space.meaning c.args.s.now)) c.new-run.result.state) c.unwrap.ensures) c.begin-writer.ensures.value (c.begin-writer.ensures.written c.args.sheet.now) some

pub finish-requires-2 : goal.finish-requires-2
finish-requires-2 g c =
    let S = g.S.Space.meaning c.args.s.now in
    let F = g.F.Finder.promise c.args.f.now in
    let V = g.V.Verifier.promise c.args.v.now in
    let ws = c.args.buffers.now.weights.now in
    let ms = c.args.buffers.now.marks.now in
    let ledger = c.args.buffers.now.ledger.now in
    let scratch = c.args.buffers.now.scratch.now in
    let sheet = c.args.sheet.now in
    let within = g.met.S.Space.within c.args.s.now in
    let st = c.begin.new.self.state in
    let w = c.begin-writer.result in
    let from : Desk = record { state = blank_state; weights = ws; marks = ms; ledger = ledger; scratch = scratch } in
    let ahead = begin_ahead F V S ws ms ledger scratch sheet within c.requires st w (c.begin.ensures.state ∙ ap (λ (r : Result Unit Refusal). accepted r (begun_state (g.S.Space.meaning c.args.s.now)) c.new-run.result.state) c.unwrap.ensures) c.begin-writer.ensures.value (c.begin-writer.ensures.written sheet) in
    let e = c.play_guesses-rounds.ensures in
    let last = c.play_guesses-rounds.new in
    let d : Desk = desk last.run.state last.buffers in
    let done = e.ends from sheet refl ahead in
    let long : length last.sheet ≡ length sheet = omega arith in
    let room = end_room S.points 0 last.writer.len (length last.sheet) (book_lines last.run.state.book) last.buffers.marks.now e.lines e.fitted.marks within.few_points e.short (omega (arith, c.requires.room)) in
    record {
      marks = omega (arith, e.fitted.marks, within.few_points);
      room = room.0;
      short = room.1;
      floor = story_floor F V S from d sheet last.sheet c.play_guesses-rounds.result done.0 last.writer done.1;
    }

pub returns : goal.returns
returns g c =
    let S = g.S.Space.meaning c.args.s.now in
    let F = g.F.Finder.promise c.args.f.now in
    let V = g.V.Verifier.promise c.args.v.now in
    let ws = c.args.buffers.now.weights.now in
    let ms = c.args.buffers.now.marks.now in
    let ledger = c.args.buffers.now.ledger.now in
    let scratch = c.args.buffers.now.scratch.now in
    let sheet = c.args.sheet.now in
    let within = g.met.S.Space.within c.args.s.now in
    let st = c.begin.new.self.state in
    let w = c.begin-writer.result in
    let from : Desk = record { state = blank_state; weights = ws; marks = ms; ledger = ledger; scratch = scratch } in
    let ahead = begin_ahead F V S ws ms ledger scratch sheet within c.requires st w (c.begin.ensures.state ∙ ap (λ (r : Result Unit Refusal). accepted r (begun_state (g.S.Space.meaning c.args.s.now)) c.new-run.result.state) c.unwrap.ensures) c.begin-writer.ensures.value (c.begin-writer.ensures.written sheet) in
    let some : 0 < S.ranges = ranges-some c.ranges-2.result S.ranges c.ranges-2.ensures c.if-ranges-eq0.false in
    let p = c.play_guesses-rounds.ensures in
    let last = c.play_guesses-rounds.new in
    let d : Desk = desk last.run.state last.buffers in
    let done = p.ends from sheet refl ahead in
    let es = done.0 in
    let story = done.1 in
    let hit = done.2 in
    let after = c.finish-2.new.sheet in
    let r = c.finish-2.result in
    let e = c.finish-2.ensures in
    let before-long : length last.sheet ≡ length sheet = omega arith in
    let room = end_room S.points 0 last.writer.len (length last.sheet) (book_lines last.run.state.book) last.buffers.marks.now p.lines p.fitted.marks within.few_points p.short (omega (arith, c.requires.room)) in
    let same : length after ≡ length last.sheet = omega arith in
    let points : r.0 ≡ chosen last.buffers.marks.now = e.points ∙ hit_points_lem F V S from d es within refl story.way hit.0 hit.1 hit.2 hit.3 hit.4 hit.5 hit.6 in
    record {
      lent = (let l = c.play_guesses-rounds.ensures.lent in record { weights = l.weights; marks = l.marks; ledger = l.ledger; scratch = l.scratch });
      placed = (
        last.run.state,
        es,
        placement F V S from d es last.writer last.sheet sheet after c.play_guesses-rounds.result r.3 story e.length room.0 same e.bytes e.back r.0 r.1 r.2 points e.floor e.rounds
            (hit_finished F V S from d es within refl story.way hit.0 hit.1 hit.2 hit.3 hit.4 hit.5 hit.6 some),
        worth F V S from d es last.writer last.sheet sheet after c.play_guesses-rounds.result r.3 story e.length room.0 same e.bytes e.back within refl
            (hit_right F V S from d es within refl story.way hit.0 hit.1 hit.2 hit.3 hit.4 hit.5 hit.6).0
            (hit_few F V S from d es within refl story.way hit.0 hit.1 hit.2 hit.3 hit.4 hit.5 hit.6),
      );
    }
