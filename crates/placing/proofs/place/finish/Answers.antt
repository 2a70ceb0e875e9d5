use Rattle.std.proofs.Common.{◌≡◌, ℕ, ◌+◌, ap, ◌∙◌, subst}
use Rattle.guesses.specs.declared.book.Book.{Book}
use Rattle.guesses.specs.Books.{book_lines}
use Rattle.runs.specs.Histories.{last_line}
use Rattle.sheets.specs.Bytes.{put}
use Rattle.sheets.specs.Writing.{end_bytes, end_length}
use Rattle.sheets.specs.RoundTrip.{AllReadBack}
use Rattle.placing.specs.Playing.{points_in}
use Rattle.placing.proofs.Ends.{close_length}
use Rattle.placing.proofs.place.finish.Goals as goal

pub returns : goal.returns
returns c =
    let w = c.args.writer in
    let ms = c.args.marks.now in
    let s = c.args.sheet.now in
    let book_is = c.book-book.ensures in
    let floor_is = c.floor-floor.ensures in
    let closed = c.in-Ok.ensures in
    let len_is : c.in-Ok.len ≡ w.len + end_length (book_lines c.args.run.now.state.book) ms =
    close_length w s (book_lines c.book-book.result) c.floor-floor.result c.in-Ok.len ms closed.answer ∙ ap (λ (b : Book). w.len + end_length (book_lines b) ms) book_is in
    record {
      points = c.answer.ensures.points ∙ ap (λ (b : Book). points_in (last_line (book_lines b))) book_is;
      floor = c.answer.ensures.floor ∙ floor_is;
      rounds = c.answer.ensures.rounds;
      length = c.answer.ensures.length ∙ len_is;
      bytes = closed.bytes ∙ (λ i. put s w.len (end_bytes w (book_lines (book_is i)) (floor_is i) ms));
      back = subst (λ (n : ℕ). AllReadBack n w s (book_lines c.args.run.now.state.book) c.args.run.now.state.floor ms c.close.new.sheet) len_is
          (subst (λ (b : Book). AllReadBack c.in-Ok.len w s (book_lines b) c.args.run.now.state.floor ms c.close.new.sheet) book_is
          (subst (λ (f : ℕ). AllReadBack c.in-Ok.len w s (book_lines c.book-book.result) f ms c.close.new.sheet) floor_is closed.back));
    }
