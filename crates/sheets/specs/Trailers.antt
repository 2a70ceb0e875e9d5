-- The trailer of a sheet.
use Rattle.std.specs.Prelude.{ℕ, ◌+◌, List, ◌++◌}
use Rattle.sheets.specs.declared.trailer.Trailer.{Trailer}
use Rattle.sheets.specs.Bytes.{bytes16, bytes32, get16, get32}

-- the places of book, points and last ledger section, 32 bits each, then n and the floor
abbrev pub trailer_bytes : Trailer → List ℕ
trailer_bytes t =
    bytes32 t.book ++ (bytes32 t.points ++ (bytes32 t.ledger ++ (bytes16 t.n ++ bytes16 t.floor)))

abbrev pub trailer_at : List ℕ → ℕ → Trailer
trailer_at s at =
    record {
      book = get32 s at;
      points = get32 s (at + 4);
      ledger = get32 s (at + 8);
      n = get16 s (at + 12);
      floor = get16 s (at + 14);
    }

-- the place that says that there is no ledger
abbrev pub no_ledger : ℕ
no_ledger = 0xffff_ffff
