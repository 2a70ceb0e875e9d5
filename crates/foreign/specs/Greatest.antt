-- The missed range with the highest number.
use Rattle.std.specs.Prelude.{◌≡◌, ℕ, zero, suc, Bool, cond, List, Some, None, Option}
use Rattle.ranges.specs.Spaces.{RangeSpace}
use Rattle.ranges.specs.Weights.{marked, missed}
use Rattle.nets.specs.Verifiers.{VerifierMeaning}

-- the greatest number below n that passes the test
abbrev pub greatest_below : (ℕ → Bool) → ℕ → Option ℕ
greatest_below t zero = None
greatest_below t (suc n) = cond (t n) (Some n) (greatest_below t n)

abbrev pub highest_missed : RangeSpace → List ℕ → Option ℕ
highest_missed S ms = greatest_below (missed S (marked ms)) S.ranges

-- highest: the missed range with the highest number
abbrev pub highest_verifier : VerifierMeaning
highest_verifier = record { picks = λ S ms ws o. o ≡ highest_missed S ms }
