-- Buffers that are given back as they were lent, over several calls.
use Rattle.std.proofs.Common.{refl, ◌∙◌}
use Rattle.runs.specs.declared.buffers.Buffers.{Buffers}
use Rattle.runs.specs.Desks.{Lent}

pub lent_same : (b : Buffers) → Lent b b
lent_same b = record { weights = refl; marks = refl; ledger = refl; scratch = refl }

pub lent_again : (a b c : Buffers) → Lent a b → Lent b c → Lent a c
lent_again a b c first second = record {
  weights = second.weights ∙ first.weights;
  marks = second.marks ∙ first.marks;
  ledger = second.ledger ∙ first.ledger;
  scratch = second.scratch ∙ first.scratch;
}
