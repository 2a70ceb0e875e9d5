use Rattle.std.proofs.Common.{take}
use Rattle.listings.specs.Text.{Lays}
use Rattle.listings.proofs.text.Lay.text.Given as goal

abbrev pub invariant-loop-b : goal.invariant-loop-b
invariant-loop-b l = Lays l.initial.self (take l.b-index l.b-items) l.self
