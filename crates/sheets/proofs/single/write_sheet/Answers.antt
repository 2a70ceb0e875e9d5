use Rattle.guesses.specs.Books.{book_lines}
use Rattle.sheets.proofs.Singles.{single_sheet_lem}
use Rattle.sheets.proofs.single.write_sheet.Goals as goal

pub returns-in-Ok-clause-bytes : goal.returns-in-Ok-clause-bytes
returns-in-Ok-clause-bytes c =
    let added = c.in_default.ensures in
    let closed = c.in-Ok.ensures in
    single_sheet_lem c.args.k c.args.lines.now (book_lines c.args.book.now) c.args.marks.now _ _ c.args.sheet.now _ _ c.in-Ok.n c.begin-writer.ensures.value added.answer added.writer added.bytes closed.answer closed.bytes

pub returns-in-Ok-clause-back : goal.returns-in-Ok-clause-back
returns-in-Ok-clause-back c = c.in-Ok.ensures.back _ (c.in_default.ensures.written _ (c.begin-writer.ensures.written c.args.sheet.now))
