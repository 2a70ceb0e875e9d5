use Rattle.std.proofs.Common.{◌*◌, ◌≤◌, arith}
use Rattle.std.proofs.lemmas.Nat.{mul-le}
use Rattle.greedy.proofs.greedy.most_marks.Goals as goal

pub overflow_mul-k-2 : goal.overflow_mul-k-2
overflow_mul-k-2 c =
    let small : 2 * c.args.k ≤ 131070 = omega arith in
    omega (arith, mul-le (2 * c.args.k) c.digit_count.result 131070 16 small c.digit_count.ensures.few)
