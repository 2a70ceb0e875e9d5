-- The lowest missed range is missed, and where there is none every range is hit.
use Rattle.std.specs.Prelude.{◌≡◌, ℕ, List, Some, None, Option}
use Rattle.std.proofs.Common.{sym}
use Rattle.std.proofs.lemmas.Bool.{not-false}
use Rattle.ranges.specs.Spaces.{RangeSpace, Within}
use Rattle.ranges.specs.Weights.{marked, missed, hit, lowest_missed}
use Rattle.ranges.proofs.Searches.{least_some, least_absent}
use Rattle.ranges.proofs.Hits.{hit_gives, missed_not}
use Rattle.nets.specs.Verifiers.{Judged}

pub lowest_judged : (S : RangeSpace) (ms ws : List ℕ) (o : Option ℕ) → Within S → o ≡ lowest_missed S (marked ms) → Judged S ms o
lowest_judged S ms ws None within e = λ j l.
    hit_gives S within (marked ms) j (not-false (hit S (marked ms) j) (least_absent (missed S (marked ms)) S.ranges (sym e) j l))
lowest_judged S ms ws (Some i) within e =
    let found = least_some (missed S (marked ms)) S.ranges i (sym e) in
    (found.0, missed_not S within (marked ms) i found.1)
