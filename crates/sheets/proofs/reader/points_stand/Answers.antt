use Rattle.std.proofs.Common.{◌≡◌, ◌&&◌, ltb, length, ap, ◌∙◌, rules}
use Rattle.std.specs.List.{list_all}
use Rattle.sheets.specs.Bytes.{get16}
use Rattle.sheets.specs.Lines.{all_below, stands_at}
use Rattle.sheets.specs.Reading.{points_rise}
use Rattle.sheets.proofs.Chunks.{all_rise}
use Rattle.sheets.proofs.reader.points_stand.Goals as goal

pub returns-then-n-le4096 : goal.returns-then-n-le4096
returns-then-n-le4096 c =
    let b = c.args.points.now in
    let rise : c.points_rise.result ≡ points_rise b c.args.n =
    c.points_rise.ensures
    ∙ ap (λ ps. all_below (stands_at ps c.args.n) (length ps)) c.as_chunks.ensures.front
    ∙ all_rise b c.args.n in
    search rules
