-- Text laid into a buffer, and what numbers in decimal are.
use Rattle.std.specs.Prelude.{◌≡◌, ℕ, ◌+◌, ◌<◌, List, [], ◌∷◌, length, decimal, slice_index}
use Rattle.std.specs.Str.Parse.{digits_value}
use Rattle.listings.specs.declared.text.Lay.{Lay}
use Rattle.sheets.specs.Bytes.{stored}

-- the byte that ends each line
abbrev pub line_end : List ℕ
line_end = 10 ∷ []

-- read back, the digits of a number give it again, and only 0 begins with the digit 0
abbrev pub DecimalLaw : Type 0
DecimalLaw = (x : ℕ) → x < 65536 → (digits_value 10 (decimal x) ≡ x) × (0 < x → 48 < slice_index (decimal x) 0)

-- the text stands in the buffer from `at` up to `end`, as far as the buffer goes, and all else is as it was
pub record Laid (before : List ℕ) (at : ℕ) (text : List ℕ) (after : List ℕ) (end : ℕ) : Type 0 where
  pub bytes : after ≡ stored before at text
  pub place : end ≡ at + length text

-- the text is laid from where the layer was, into the same buffer
pub record Lays (before : Lay) (text : List ℕ) (after : Lay) : Type 0 where
  pub buffer : after.out.ghost_name ≡ before.out.ghost_name
  pub laid : Laid before.out.now before.at text after.out.now after.at
