-- What a verifier promises: which range it may name.
use Rattle.std.specs.Prelude.{◌≡◌, ℕ, ◌^◌, ◌<◌, not, ◌||◌, List, length, Some, None, Ok, Err, Option, Result, ◌==◌, nat_lt}
use Rattle.ranges.specs.declared.number.RangeNumber.{RangeNumber}
use Rattle.ranges.specs.declared.refusal.Refusal.{Refusal}
use Rattle.ranges.specs.declared.refusal.Refusal.TheVariants.{WrongLength, WrongTotal}
use Rattle.ranges.specs.Refusals.{unless}
use Rattle.ranges.specs.Spaces.{RangeSpace, Within}
use Rattle.ranges.specs.Below.{least_by}
use Rattle.ranges.specs.Weights.{total, range_weight, marked, missed, lowest_missed, range_of, Hits, HitsAll}

-- what an answer says: none, every range is hit; a range, it exists and is not hit
abbrev pub Judged : RangeSpace → List ℕ → Option ℕ → Type 0
Judged S ms None = HitsAll S (marked ms)
Judged S ms (Some j) = (j < S.ranges) × (Hits S (marked ms) j → ⊥)

-- a verifier's meaning: the answers that may come of marks and weights
pub record VerifierMeaning : Type 1 where
  pub picks : RangeSpace → List ℕ → List ℕ → Option ℕ → Type 0

-- whatever it may answer is true
abbrev pub VerifierSound : VerifierMeaning → Type 0
VerifierSound V =
    (S : RangeSpace) (ms ws : List ℕ) (o : Option ℕ) → Within S → V.picks S ms ws o → Judged S ms o

-- the checks of a verifier, in number order
abbrev pub judge_check : RangeSpace → ℕ → List ℕ → Result Unit Refusal
judge_check S marks ws =
    unless (not (length ws == S.points) || not (marks == S.points)) WrongLength
    (unless (nat_lt (2 ^ 49) (total ws)) WrongTotal (Ok tt))

-- an accepted answer is one of the verifier's
abbrev pub Picked : VerifierMeaning → RangeSpace → List ℕ → List ℕ → Result (Option RangeNumber) Refusal → Type 0
Picked V S ms ws (Ok o) = V.picks S ms ws (range_of o)
Picked V S ms ws (Err e) = Unit {0}

-- lowest: the missed range with the lowest number
abbrev pub lowest_verifier : VerifierMeaning
lowest_verifier = record { picks = λ S ms ws o. o ≡ lowest_missed S (marked ms) }

-- the missed range of least weight, the lowest number among equals
abbrev pub lightest_missed : RangeSpace → List ℕ → List ℕ → Option ℕ
lightest_missed S ms ws = least_by (missed S (marked ms)) (range_weight S ws) S.ranges

-- lightest: the missed range of least weight
abbrev pub lightest_verifier : VerifierMeaning
lightest_verifier = record { picks = λ S ms ws o. o ≡ lightest_missed S ms ws }
