use Rattle.std.proofs.Common.{◌≡◌, ◌+◌, ◌%◌, [], ◌∷◌, sym, ap, ◌∙◌, decimal, arith}
use Rattle.std.proofs.lemmas.Fmt.{decimal_digit, decimal_step, length-decimal-le}
use Rattle.listings.specs.Text.{Lays}
use Rattle.listings.proofs.Laying.{lays_then, lays_as}
use Rattle.listings.proofs.text.Lay.+number.Goals as goal
use Rattle.listings.proofs.text.Lay.+number.Goals.{then-x-ge10, else-x-ge10}

pub returns : goal.returns
returns t c =
    let x = c.args.x in
    let laid : Lays c.args.self.now (decimal x) c.byte.new.self = elim c.if-x-ge10.branch [
      | then-x-ge10 w ↦ lays_as (sym (decimal_step x w.if-x-ge10.true (omega arith))) (lays_then (rw w.self-is w.number.ensures.laid) c.byte.ensures)
      | else-x-ge10 w ↦ (
          let digit : x % 10 ≡ x = omega (arith, w.if-x-ge10.false) in
          lays_as (ap (λ d. (48 + d) ∷ []) digit ∙ sym (decimal_digit x w.if-x-ge10.false)) (rw (sym w.self-is) c.byte.ensures))
    ] in
    record { laid = laid; short = omega (arith, laid.laid.place, length-decimal-le 5 x (omega arith) (omega arith) (omega arith)) }
