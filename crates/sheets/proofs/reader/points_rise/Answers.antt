use Rattle.std.proofs.Common.{◌≡◌, ◌<◌, ltb, false, true, length, get_or, [], Some, ap, sym, ◌∙◌, rules, arith}
use Rattle.std.specs.List.{slice_get}
use Rattle.std.proofs.lemmas.Option.{get_or_from_slice_get, slice_get_within}
use Rattle.sheets.specs.Bytes.{get16}
use Rattle.sheets.proofs.Chunks.{first_fails, first_rises}
use Rattle.sheets.proofs.reader.points_rise.Goals as goal

pub returns-else-is_below : goal.returns-else-is_below
returns-else-is_below c =
    let ps = c.args.points.now in
    let here : slice_get ps 0 ≡ Some c.in-Some.p.now = search rules in
    let first : ltb (get16 (get_or ps 0 []) 0) c.args.n ≡ false = ap (λ p. ltb (get16 p 0) c.args.n) (get_or_from_slice_get ps 0 c.in-Some.p.now [] here) ∙ sym c.is_below.ensures ∙ c.if-is_below.false in
    c.if-is_below.false ∙ sym (first_fails ps c.args.n (slice_get_within ps 0 c.in-Some.p.now here) first)

pub returns-then-is_below : goal.returns-then-is_below
returns-then-is_below c =
    let ps = c.args.points.now in
    let here : slice_get ps 0 ≡ Some c.in-Some.p.now = search rules in
    let first : ltb (get16 (get_or ps 0 []) 0) c.args.n ≡ true = ap (λ p. ltb (get16 p 0) c.args.n) (get_or_from_slice_get ps 0 c.in-Some.p.now [] here) ∙ sym c.is_below.ensures ∙ c.if-is_below.true in
    c.others_rise.ensures ∙ first_rises ps c.args.n first
