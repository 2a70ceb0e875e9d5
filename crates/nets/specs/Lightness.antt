-- The lightest missed range is missed, and where there is none every range is hit.
use Rattle.std.specs.Prelude.{Some, None}
use Rattle.std.proofs.Common.{sym}
use Rattle.std.proofs.lemmas.Bool.{not-false}
use Rattle.ranges.specs.Weights.{range_weight, marked, missed, hit}
use Rattle.ranges.proofs.Least.{least_by_none, least_by_some}
use Rattle.ranges.proofs.Hits.{hit_gives, missed_not}
use Rattle.nets.specs.Verifiers.{lightest_verifier, VerifierSound}

pub lightest_judged : VerifierSound lightest_verifier
lightest_judged S ms ws None within e = λ j l.
    hit_gives S within (marked ms) j (not-false (hit S (marked ms) j) (least_by_none (missed S (marked ms)) (range_weight S ws) S.ranges (sym e) j l))
lightest_judged S ms ws (Some i) within e =
    let found = least_by_some (missed S (marked ms)) (range_weight S ws) S.ranges i (sym e) in
    (found.0, missed_not S within (marked ms) i found.1)
