-- The sweep: weights summed in number order, a mark where the sum is heavy.
use Rattle.std.specs.Prelude.{◌≡◌, ℕ, zero, suc, ◌+◌, ◌-◌, ◌*◌, Bool, cond, List, length}
use Rattle.ranges.specs.Spaces.{RangeSpace, Ordered}
use Rattle.ranges.specs.Weights.{weight_at, total, outweighs, marks_of}
use Rattle.nets.specs.Finders.{FinderMeaning}

-- a sum that starts again from 0 once it is heavy
abbrev pub carry_on : ℕ → ℕ → ℕ → ℕ
carry_on k W sum = cond (outweighs k sum W) 0 sum

-- the sum before point i
abbrev pub carried : ℕ → List ℕ → ℕ → ℕ
carried k ws zero = 0
carried k ws (suc i) = carry_on k (total ws) (carried k ws i + weight_at ws i)

-- point i is marked: with its own weight the sum is heavy
abbrev pub full : ℕ → List ℕ → ℕ → Bool
full k ws i = outweighs k (carried k ws i + weight_at ws i) (total ws)

abbrev pub sweep_net : ℕ → List ℕ → List ℕ
sweep_net k ws = marks_of (full k ws) (length ws)

-- the space is an ordered one
abbrev pub InOrder : RangeSpace → Type 0
InOrder S = (first : ℕ → ℕ) × (end : ℕ → ℕ) × Ordered S first end

-- sweep: at most 2·k − 1 points, no scratch, and just this net, for ordered spaces
abbrev pub sweep_finder : FinderMeaning
sweep_finder = record {
  bound = λ n m k. 2 * k - 1;
  need = λ n m. 0;
  nets = λ S k ws ms. (ms ≡ sweep_net k ws) × InOrder S;
}
