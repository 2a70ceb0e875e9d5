-- The buffers of a run and the sheet's, as a placement speaks of them.
use Rattle.std.specs.Prelude.{ℕ, List}
use Rattle.runs.specs.declared.buffers.Buffers as lending
use Rattle.placing.specs.Placements.{Buffers}

-- what the lent buffers and the sheet hold
abbrev pub with_sheet : lending.Buffers → List ℕ → Buffers
with_sheet b sheet = record { weights = b.weights.now; marks = b.marks.now; ledger = b.ledger.now; scratch = b.scratch.now; sheet = sheet }
