use Rattle.std.proofs.Common.{arith}
use Rattle.guesses.proofs.Limits.{limit_le}
use Rattle.runs.proofs.round.missed.Goals as goal

pub overflow_add-doublings : goal.overflow_add-doublings
overflow_add-doublings c =
    omega (arith, limit_le c.args.state.now.n c.args.guess.k c.requires.some c.requires.few c.requires.points)
