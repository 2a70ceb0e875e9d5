-- The buffers that a caller lends, beside the state of a run.
use Rattle.std.specs.Prelude.{◌≡◌}
use Rattle.runs.specs.declared.buffers.Buffers.{Buffers}
use Rattle.runs.specs.declared.state.State.{State}
use Rattle.runs.specs.Runs.{Desk}

-- a run's state with what the buffers hold
abbrev pub desk : State → Buffers → Desk
desk st b = record { state = st; weights = b.weights.now; marks = b.marks.now; ledger = b.ledger.now; scratch = b.scratch.now }

-- a call gives back the very buffers that it was lent
pub record Lent (before after : Buffers) : Type 0 where
  pub weights : after.weights.ghost_name ≡ before.weights.ghost_name
  pub marks : after.marks.ghost_name ≡ before.marks.ghost_name
  pub ledger : after.ledger.ghost_name ≡ before.ledger.ghost_name
  pub scratch : after.scratch.ghost_name ≡ before.scratch.ghost_name
