use Rattle.std.proofs.Common.{◌≡◌, ◌+◌, sym, subst, arith}
use Rattle.guesses.specs.Books.{book_lines}
use Rattle.sheets.specs.Bytes.{put}
use Rattle.sheets.specs.Writing.{end_bytes, end_length}
use Rattle.sheets.specs.RoundTrip.{AllReadBack}
use Rattle.sheets.proofs.Closed.{end_laid, all_back}
use Rattle.sheets.proofs.writer.SheetWriter.lay_end.Goals as goal

pub returns : goal.returns
returns c =
    let w = c.args.self.now in
    let s = c.args.sheet.now in
    let ls = book_lines c.args.book.now in
    let ms = c.args.marks.now in
    let laid : c.store_trailer.new.sheet ≡ put s w.len (end_bytes w ls c.args.floor ms) =
    end_laid w ls c.args.floor ms s c.store_book.new.sheet c.store_points.new.sheet c.store_trailer.new.sheet c.end_trailer.result _ _
    c.store_book.ensures.bytes c.store_points.ensures c.store_trailer.ensures (omega arith) (omega arith) c.end_trailer.ensures (omega arith) in
    record {
      bytes = laid;
      back = subst (AllReadBack (w.len + end_length ls ms) w s ls c.args.floor ms) (sym laid)
          (all_back ls ms s c.store_book.ensures.fit (omega arith) (omega arith) w c.args.floor c.requires.last (omega arith));
    }
