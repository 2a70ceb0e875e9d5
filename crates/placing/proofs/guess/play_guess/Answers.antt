use Rattle.std.proofs.Common.{◌≡◌, ℕ, ◌+◌, ◌*◌, ◌≤◌, length, take, Ok, sym, ◌∙◌, subst, rules, arith}
use Rattle.std.proofs.lemmas.Bool.{eqb-true, eqb-false}
use Rattle.guesses.specs.Limits.{limit_of}
use Rattle.runs.specs.Desks.{desk}
use Rattle.runs.specs.Runs.{Desk}
use Rattle.sheets.specs.Bytes.{put}
use Rattle.sheets.specs.Sheets.{section_bytes}
use Rattle.sheets.specs.Writing.{next_writer, AddKeeps}
use Rattle.placing.specs.Playing.{Fitted}
use Rattle.placing.proofs.Openings.{open_desk, opened_is, open_fitted}
use Rattle.placing.proofs.Stories.{ready_small, ready_open, room_left, played, settled_ruled, story_ruled, settled_hit, story_hit}
use Rattle.placing.proofs.guess.play_guess.Goals as goal

pub unwrap-requires : goal.unwrap-requires
unwrap-requires g c =
    let fine = ready_open _ _ (g.S.Space.meaning c.args.s.now) c.args.k _ c.args.writer.now c.args.sheet.now (g.met.S.Space.within c.args.s.now) c.requires in
    let ok = c.open.ensures.answer ∙ fine in
    search rules

pub play_rounds-rounds-requires : goal.play_rounds-rounds-requires
play_rounds-rounds-requires g c =
    let S = g.S.Space.meaning c.args.s.now in
    let F = g.F.Finder.promise c.args.f.now in
    let before : Desk = desk c.args.run.now.state c.args.buffers.now in
    let after : Desk = record { state = c.open.new.self.state; weights = c.open.new.weights; marks = c.args.buffers.now.marks.now; ledger = c.args.buffers.now.ledger.now; scratch = c.args.buffers.now.scratch.now } in
    let is : after ≡ open_desk S c.args.k before = opened_is S c.args.k before _ _ c.open.result c.unwrap.ensures c.open.ensures.state c.open.ensures.weights in
    subst (Fitted S (F.need S.points S.ranges)) (sym is) (open_fitted S (F.need S.points S.ranges) c.args.k before c.requires.fitted)

pub add_ledger-requires : goal.add_ledger-requires
add_ledger-requires g c =
    let S = g.S.Space.meaning c.args.s.now in
    let F = g.F.Finder.promise c.args.f.now in
    let V = g.V.Verifier.promise c.args.v.now in
    let k = c.args.k in
    let value = c.points-n.ensures in
    let within = g.met.S.Space.within c.args.s.now in
    let before : Desk = desk c.args.run.now.state c.args.buffers.now in
    let opened : Desk = record { state = c.open.new.self.state; weights = c.open.new.weights; marks = c.args.buffers.now.marks.now; ledger = c.args.buffers.now.ledger.now; scratch = c.args.buffers.now.scratch.now } in
    let after : Desk = desk c.play_rounds-rounds.new.run.state c.play_rounds-rounds.new.buffers in
    let is : opened ≡ open_desk S k before = opened_is S c.args.k before _ _ c.open.result c.unwrap.ensures c.open.ensures.state c.open.ensures.weights in
    let small = ready_small F V S k before c.args.writer.now c.args.sheet.now within c.requires in
    let past = c.requires.past in
    let raised : c.play_rounds-rounds.new.run.state.floor ≡ k = eqb-true _ _ (sym c.is_ruled_out.ensures ∙ c.if-is_ruled_out.true) in
    let room = room_left F V S k before c.args.writer.now c.args.sheet.now within c.requires opened after c.play_rounds-rounds.result is c.play_rounds-rounds.ensures.course c.play_rounds-rounds.ensures.closed
    past.0 past.2 past.1 past.3 past.4 past.5 past.6 raised in
    record {
      some = small.0;
      within = omega (arith, small.1);
      few = omega (arith, within.few_points);
      lines = omega (arith, c.play_rounds-rounds.ensures.fitted.ledger);
      room = subst (λ (x : ℕ). c.args.writer.now.len + (4 + 2 * limit_of x k) ≤ 24 * x + 320) (sym value) room;
      long = omega (arith, c.requires.long);
    }

pub returns-then-is_ruled_out : goal.returns-then-is_ruled_out
returns-then-is_ruled_out g c =
    let S = g.S.Space.meaning c.args.s.now in
    let F = g.F.Finder.promise c.args.f.now in
    let V = g.V.Verifier.promise c.args.v.now in
    let k = c.args.k in
    let w = c.args.writer.now in
    let sheet = c.args.sheet.now in
    let value = c.points-n.ensures in
    let within = g.met.S.Space.within c.args.s.now in
    let before : Desk = desk c.args.run.now.state c.args.buffers.now in
    let opened : Desk = record { state = c.open.new.self.state; weights = c.open.new.weights; marks = c.args.buffers.now.marks.now; ledger = c.args.buffers.now.ledger.now; scratch = c.args.buffers.now.scratch.now } in
    let after : Desk = desk c.play_rounds-rounds.new.run.state c.play_rounds-rounds.new.buffers in
    let is : opened ≡ open_desk S k before = opened_is S c.args.k before _ _ c.open.result c.unwrap.ensures c.open.ensures.state c.open.ensures.weights in
    let past = c.requires.past in
    let r = c.play_rounds-rounds.result in
    let courses = c.play_rounds-rounds.ensures.course in
    let closed = c.play_rounds-rounds.ensures.closed in
    let fit = c.play_rounds-rounds.ensures.fitted in
    let raised : c.play_rounds-rounds.new.run.state.floor ≡ k = eqb-true _ _ (sym c.is_ruled_out.ensures ∙ c.if-is_ruled_out.true) in
    let w' = c.add_ledger.new.writer in
    let sheet' = c.add_ledger.new.sheet in
    let lines = c.play_rounds-rounds.new.buffers.ledger.now in
    let writer-is = subst (λ (x : ℕ). w' ≡ next_writer w k (take (limit_of x k) lines)) value c.add_ledger.ensures.writer in
    let bytes-are = subst (λ (x : ℕ). sheet' ≡ put sheet w.len (section_bytes k (take (limit_of x k) lines))) value c.add_ledger.ensures.bytes in
    let keeps = subst (λ (x : ℕ). AddKeeps (Ok tt) w sheet k (take (limit_of x k) lines) w' sheet') value c.add_ledger.ensures.written in
    let long : length sheet' ≡ length sheet = omega arith in
    record {
      settled = settled_ruled F V S k before w sheet within c.requires opened after r is courses closed past.0 past.2 past.1 past.3 past.4 past.5 past.6 raised fit w' sheet' writer-is bytes-are keeps long;
      plays = λ from sheet₀ rounds blank ahead. story_ruled F V S k before w sheet within c.requires opened after r is courses closed from blank ahead.0 ahead.1.way ahead.2 ahead.3 ahead.4 raised fit w' sheet' writer-is bytes-are keeps long sheet₀ rounds ahead.1;
      lent = (let l = c.play_rounds-rounds.ensures.lent in record { weights = l.weights; marks = l.marks; ledger = l.ledger; scratch = l.scratch });
      rounds = c.play_rounds-rounds.ensures.counted.1;
      lines = (played F V S k before w sheet within c.requires opened after r is courses closed past.0 past.2 past.1 past.3 past.4 past.5 past.6).lines_are;
    }

pub returns-else-is_ruled_out : goal.returns-else-is_ruled_out
returns-else-is_ruled_out g c =
    let S = g.S.Space.meaning c.args.s.now in
    let F = g.F.Finder.promise c.args.f.now in
    let V = g.V.Verifier.promise c.args.v.now in
    let k = c.args.k in
    let w = c.args.writer.now in
    let sheet = c.args.sheet.now in
    let within = g.met.S.Space.within c.args.s.now in
    let before : Desk = desk c.args.run.now.state c.args.buffers.now in
    let opened : Desk = record { state = c.open.new.self.state; weights = c.open.new.weights; marks = c.args.buffers.now.marks.now; ledger = c.args.buffers.now.ledger.now; scratch = c.args.buffers.now.scratch.now } in
    let after : Desk = desk c.play_rounds-rounds.new.run.state c.play_rounds-rounds.new.buffers in
    let is : opened ≡ open_desk S k before = opened_is S c.args.k before _ _ c.open.result c.unwrap.ensures c.open.ensures.state c.open.ensures.weights in
    let past = c.requires.past in
    let r = c.play_rounds-rounds.result in
    let courses = c.play_rounds-rounds.ensures.course in
    let closed = c.play_rounds-rounds.ensures.closed in
    let other : c.play_rounds-rounds.new.run.state.floor ≡ k → ⊥ = eqb-false _ _ (sym c.is_ruled_out.ensures ∙ c.if-is_ruled_out.false) in
    record {
      settled = settled_hit F V S k before w sheet within c.requires opened after r is courses closed past.0 past.2 past.1 past.3 past.4 past.5 past.6 other c.play_rounds-rounds.ensures.fitted;
      plays = λ from sheet₀ rounds blank ahead. story_hit F V S k before w sheet within c.requires opened after r is courses closed from blank ahead.0 ahead.1.way ahead.2 ahead.3 ahead.4 other sheet₀ rounds ahead.1;
      lent = (let l = c.play_rounds-rounds.ensures.lent in record { weights = l.weights; marks = l.marks; ledger = l.ledger; scratch = l.scratch });
      rounds = c.play_rounds-rounds.ensures.counted.1;
      lines = (played F V S k before w sheet within c.requires opened after r is courses closed past.0 past.2 past.1 past.3 past.4 past.5 past.6).lines_are;
    }
