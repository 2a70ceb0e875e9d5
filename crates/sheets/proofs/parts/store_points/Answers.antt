use Rattle.std.proofs.Common.{◌≡◌, [], ◌∷◌, ◌++◌, length, sym, ap, ◌∙◌, arith}
use Rattle.std.proofs.lemmas.List.{length_push}
use Rattle.sheets.specs.Bytes.{bytes16, stored, numbers_bytes}
use Rattle.sheets.specs.Sheets.{chosen_below}
use Rattle.sheets.proofs.Points.{chosen_here, chosen_past, chosen_room}
use Rattle.sheets.proofs.Stores.{numbers_more}
use Rattle.sheets.proofs.parts.store_points.Goals as goal
use Rattle.sheets.proofs.parts.store_points.Goals.{then-mark-eq1, else-mark-eq1}

pub store-requires : goal.store-requires
store-requires c = omega (arith, chosen_room c.args.marks.now c.loop-p.p (omega arith) c.if-mark-eq1.true)

pub overflow_add-next : goal.overflow_add-next
overflow_add-next c = omega (arith, chosen_room c.args.marks.now c.loop-p.p (omega arith) c.if-mark-eq1.true)

pub loop-p-preserved : goal.loop-p-preserved
loop-p-preserved c =
    let ms = c.args.marks.now in
    let s = c.args.sheet.now in
    let p = c.loop-p.p in
    let before = chosen_below ms p in
    elim c.if-mark-eq1.branch [
      | then-mark-eq1 w ↦
          let here = chosen_here ms p w.if-mark-eq1.true in
          let laid : w.store.new.sheet ≡ stored s c.args.at (numbers_bytes (before ++ p ∷ [])) =
          w.store.ensures
          ∙ ap (stored c.loop-p.sheet c.loop-p.next) w.number_bytes.ensures.bytes
          ∙ ap (λ z. stored z c.loop-p.next (bytes16 p)) c.loop-p.invariant.0
          ∙ ap (λ n. stored (stored s c.args.at (numbers_bytes before)) n (bytes16 p)) c.loop-p.invariant.1
          ∙ sym (numbers_more before (p ∷ []) s c.args.at) in
          (w.sheet-is ∙ laid ∙ ap (λ ps. stored s c.args.at (numbers_bytes ps)) (sym here), omega (arith, w.next-is, ap length here, length_push before p))
      | else-mark-eq1 w ↦
          let past = chosen_past ms p w.if-mark-eq1.false in
          (w.sheet-is ∙ c.loop-p.invariant.0 ∙ ap (λ ps. stored s c.args.at (numbers_bytes ps)) (sym past), omega (arith, w.next-is, ap length past))
    ]
