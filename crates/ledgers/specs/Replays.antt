-- Replay: a ledger's lines checked and doubled in order.
use Rattle.std.specs.Prelude.{ℕ, ◌+◌, cond, not, ◌||◌, List, [], ◌∷◌, ◌++◌, map, length, codes, decimal, Ok, Err, Result, ◌==◌, nat_lt}
use Rattle.ranges.specs.declared.number.RangeNumber.{RangeNumber}
use Rattle.ranges.specs.declared.refusal.Refusal.{Refusal}
use Rattle.ranges.specs.declared.refusal.Refusal.TheVariants.{WrongLength, GuessOutOfRange, LedgerLength}
use Rattle.ranges.specs.Refusals.{unless, reason}
use Rattle.ranges.specs.Spaces.{RangeSpace}
use Rattle.guesses.specs.Limits.{limit_of}
use Rattle.ledgers.specs.declared.replay.ReplayError.{ReplayError}
use Rattle.ledgers.specs.declared.replay.ReplayError.TheVariants.{Refused, BadLine}
use Rattle.ledgers.specs.Doublings.{doubled, ones, good}

-- the numbers of a ledger's lines
abbrev pub numbers : List RangeNumber → List ℕ
numbers l = map (λ j. j.0) l

-- what is read past a ledger's end
abbrev pub no_range : RangeNumber
no_range = record { 0 = 0 }

-- what is left of a ledger, from place i on, under the present weights
abbrev pub replayed : RangeSpace → ℕ → ℕ → List ℕ → List RangeNumber → Result Unit ReplayError
replayed S k i ws [] = Ok tt
replayed S k i ws (j ∷ js) = cond (good S k ws j.0) (replayed S k (i + 1) (doubled S j.0 ws) js) (Err (BadLine i))

-- the weights it leaves: those before the first line that is not good
abbrev pub replayed_weights : RangeSpace → ℕ → List ℕ → List RangeNumber → List ℕ
replayed_weights S k ws [] = ws
replayed_weights S k ws (j ∷ js) = cond (good S k ws j.0) (replayed_weights S k (doubled S j.0 ws) js) ws

-- the checks of replay, in number order
abbrev pub replay_check : RangeSpace → ℕ → ℕ → ℕ → Result Unit Refusal
replay_check S k ledger weights =
    unless (not (weights == S.points)) WrongLength
    (unless (k == 0 || nat_lt S.points k) GuessOutOfRange
    (unless (not (ledger == limit_of S.points k)) LedgerLength (Ok tt)))

-- the answer, the refusals included
abbrev pub and_replay : Result Unit Refusal → Result Unit ReplayError → Result Unit ReplayError
and_replay (Ok u) a = a
and_replay (Err e) a = Err (Refused e)

abbrev pub replay_answer : RangeSpace → ℕ → List RangeNumber → ℕ → Result Unit ReplayError
replay_answer S k ledger weights = and_replay (replay_check S k (length ledger) weights) (replayed S k 0 (ones S.points) ledger)

-- refused, the weights stay
abbrev pub replay_weights : Result Unit ReplayError → RangeSpace → ℕ → List RangeNumber → List ℕ → List ℕ
replay_weights (Ok a) S k ledger ws = replayed_weights S k (ones S.points) ledger
replay_weights (Err (BadLine i)) S k ledger ws = replayed_weights S k (ones S.points) ledger
replay_weights (Err (Refused e)) S k ledger ws = ws

-- the words of an error
abbrev pub replay_reason : ReplayError → List ℕ
replay_reason (Refused e) = reason e
replay_reason (BadLine i) = codes "line " ++ (decimal i ++ codes " is not good")
