use Rattle.std.proofs.Common.{◌≡◌, ◌+◌, ◌-◌, ◌≤◌, length, drop, ap, ◌∙◌, arith, rules}
use Rattle.std.proofs.lemmas.List.{take_all, length-drop}
use Rattle.sheets.specs.Bytes.{get16}
use Rattle.sheets.proofs.Sections.{section_guess, section_count, section_lines}
use Rattle.sheets.proofs.reader.section_at.Goals as goal

pub returns : goal.returns
returns c =
    let s = c.args.bytes.now in
    let i = c.args.place in
    let j = c.args.end in
    let whole = c.in_ok-section.ensures.lookup.0 in
    let rest = c.in_ok-lines.ensures.lookup.0 in
    let section = c.in_ok-section.section.now in
    let room : i + 4 ≤ j = omega (arith, whole.3, rest.0) in
    let guess : c.from_le_bytes.result ≡ get16 section 0 = search rules in
    let count : c.from_le_bytes-2.result ≡ get16 section 2 = search rules in
    let lines : c.in_ok-lines.lines.now ≡ drop 4 section = rest.2 ∙ take_all (length section - 4) (drop 4 section) (omega (arith, length-drop 4 section)) in (
      omega (arith, whole.3, rest.3),
      guess ∙ ap (λ z. get16 z 0) whole.2 ∙ section_guess s i j room,
      count ∙ ap (λ z. get16 z 2) whole.2 ∙ section_count s i j room,
      lines ∙ ap (drop 4) whole.2 ∙ section_lines s i j room,
    )
