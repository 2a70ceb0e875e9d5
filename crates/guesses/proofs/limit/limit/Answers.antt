use Rattle.guesses.proofs.Limits.{limit_law}
use Rattle.guesses.proofs.limit.limit.Goals as goal

pub returns-clause-law : goal.returns-clause-law
returns-clause-law c = limit_law c.args.n c.args.k
