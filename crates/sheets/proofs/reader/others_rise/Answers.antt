use Rattle.std.proofs.Common.{ltb, ◌&&◌, rules, tests}
use Rattle.std.proofs.lemmas.Fn.{always_returns_same}
use Rattle.sheets.specs.Bytes.{get16}
use Rattle.sheets.proofs.Chunks.{rises_sorted}
use Rattle.sheets.proofs.reader.others_rise.Goals as goal

pub returns : goal.returns
returns c =
    rises_sorted c.args.points.now c.args.n c.is_sorted_by.result
    (c.is_sorted_by.ensures.cases (λ x y. ltb (get16 y 0) c.args.n && ltb (get16 x 0) (get16 y 0)) (always_returns_same _ _ _ (λ a r q k. search (rules, tests))))
