use Rattle.std.proofs.Common.{◌≡◌, cond, Ok, Err, ap, ◌∙◌, rules}
use Rattle.ranges.specs.declared.refusal.Refusal.TheVariants.{BadSheet}
use Rattle.sheets.specs.Lines.{verdict_stands, line_in}
use Rattle.sheets.proofs.Chunks.{line_found}
use Rattle.sheets.proofs.sheet.Sheet.book_line.Goals as goal

pub returns : goal.returns
returns c =
    let b = c.args.self.now.book.now in
    let found : c.line_from.result ≡ Ok (line_in b c.args.i) =
    c.line_from.ensures
    ∙ ap (λ p. cond (verdict_stands p 0) (Ok (line_in p 0)) (Err BadSheet)) c.in_ok-piece.ensures.1
    ∙ line_found b c.args.i c.args.self.now.verdicts c.in_ok-piece.ensures.0 in
    search rules
