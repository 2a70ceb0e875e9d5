use Rattle.std.proofs.Common.{arith}
use Rattle.guesses.specs.Books.{book_lines}
use Rattle.listings.specs.Listings.{listing}
use Rattle.listings.proofs.Laying.{laid_whole, decimal_law}
use Rattle.listings.proofs.listing.write_listing.Goals as goal

pub returns-clause-bytes : goal.returns-clause-bytes
returns-clause-bytes c =
    laid_whole (listing c.args.n c.args.m (book_lines c.args.book.now) c.args.floor c.args.marks.now) c.args.out.now c.lay_listing.new.out c.lay_listing.result c.lay_listing.ensures (omega (arith, c.if-out-len.false, c.lay_listing-len.ensures.place))

pub returns-clause-digits : goal.returns-clause-digits
returns-clause-digits c = decimal_law
