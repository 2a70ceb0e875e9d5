use Rattle.std.proofs.Common.{◌≡◌, Some, refl}
use Rattle.guesses.specs.Limits.{steps}
use Rattle.guesses.proofs.limit.worked_limits.Goals as goal

pub returns : goal.returns
unfolding steps
returns c =
    let one : c.limit.result ≡ Some 1 = c.limit.ensures.value in
    let four_one : c.limit-2.result ≡ Some 9 = c.limit-2.ensures.value in
    let four_two : c.limit-3.result ≡ Some 10 = c.limit-3.ensures.value in
    let four_three : c.limit-4.result ≡ Some 6 = c.limit-4.ensures.value in
    let four_four : c.limit-5.result ≡ Some 4 = c.limit-5.ensures.value in
    let most_one : c.limit-6.result ≡ Some 49 = c.limit-6.ensures.value in
    let most_most : c.limit-7.result ≡ Some 4096 = c.limit-7.ensures.value in
    record {
      value = cc;
      worked = record { one = refl; four_one = refl; four_two = refl; four_three = refl; four_four = refl; most_one = refl; most_most = refl };
    }
