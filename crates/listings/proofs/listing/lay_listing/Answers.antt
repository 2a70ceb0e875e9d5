use Rattle.std.proofs.Common.{◌≡◌, ◌+◌, length, rules, ap, ◌∙◌}
use Rattle.guesses.specs.Books.{book_lines}
use Rattle.sheets.specs.Bytes.{stored}
use Rattle.listings.specs.Listings.{listing}
use Rattle.listings.proofs.Laying.{lays_then}
use Rattle.listings.proofs.listing.lay_listing.Goals as goal

pub returns : goal.returns
returns c =
    let text = listing c.args.n c.args.m (book_lines c.args.book.now) c.args.floor c.args.marks.now in
    let whole = lays_then c.head.ensures.laid (lays_then c.guesses.ensures.laid (lays_then c.floor_line.ensures.laid c.points.ensures)) in
    let kept = whole.buffer ∙ c.new-lay.ensures.buffer in
    let back : _ ≡ c.points.new.lay.out.now = search (rules, kept) in
    record {
      bytes = back ∙ whole.laid.bytes ∙ ap (λ s. stored s c.new-lay.result.at text) c.new-lay.ensures.bytes ∙ ap (λ i. stored c.args.out.now i text) c.new-lay.ensures.start;
      place = c.end.ensures ∙ whole.laid.place ∙ ap (λ i. i + length text) c.new-lay.ensures.start;
    }
