use Rattle.std.proofs.Common.{rules}
use Rattle.guesses.proofs.Books.{placed}
use Rattle.guesses.proofs.book.Book.lines.Goals as goal

pub returns-clause-placed : goal.returns-clause-placed
returns-clause-placed c = placed c.args.self.now (search rules)
