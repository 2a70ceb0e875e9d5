-- A ledger section as it lies in a sheet.
use Rattle.std.proofs.Common.{◌≡◌, ℕ, ◌+◌, ◌-◌, ◌≤◌, List, take, drop, ap, ◌∙◌, arith}
use Rattle.std.proofs.lemmas.List.{drop-drop, drop-take}
use Rattle.sheets.specs.Bytes.{get16}
use Rattle.sheets.specs.Reading.{part}
use Rattle.sheets.proofs.Chunks.{front16}

module _ (s : List ℕ) (i j : ℕ) (room : i + 4 ≤ j) where
  pub section_guess : get16 (part s i j) 0 ≡ get16 s i
  section_guess = front16 (j - i) i 0 s (omega arith) ∙ ap (get16 s) (omega arith)

  pub section_count : get16 (part s i j) 2 ≡ get16 s (i + 2)
  section_count = front16 (j - i) i 2 s (omega arith)

  pub section_lines : drop 4 (part s i j) ≡ part s (i + 4) j
  section_lines =
      let n : j - i ≡ 4 + (j - (i + 4)) = omega arith in
      ap (λ m. drop 4 (take m (drop i s))) n ∙ drop-take 4 (j - (i + 4)) (drop i s) ∙ ap (take (j - (i + 4))) (drop-drop 4 i s)
