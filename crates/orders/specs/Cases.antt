-- The worked cases: limits, a corner of a box, and the web job at guess 1.
use Rattle.std.specs.Prelude.{◌≡◌, true, List, [], ◌∷◌, pos, Some}
use Rattle.ranges.specs.Spaces.{RangeSpace}
use Rattle.ranges.specs.Weights.{marked, lowest_missed}
use Rattle.shapes.specs.declared.strip_range.StripPoint.{StripPoint}
use Rattle.shapes.specs.declared.strip_range.StripRange.{StripRange}
use Rattle.shapes.specs.Boxes.{box_holds}
use Rattle.shapes.specs.Strips.{strip_meaning}
use Rattle.nets.specs.Sweeps.{sweep_net, sweep_finder}
use Rattle.nets.specs.Verifiers.{lowest_verifier, lightest_verifier}
use Rattle.greedy.specs.Greedy.{greedy_finder}
use Rattle.guesses.specs.Limits.{WorkedLimits}
use Rattle.ledgers.specs.Doublings.{ones, doubled}
use Rattle.placing.specs.Placements.{OneNet, OneAnswer}

-- points at 0, 10, 20 and 30, strips from 0 to 10 and from 20 to 30
abbrev pub web_points : List StripPoint
web_points = record { x = pos 0 } ∷ record { x = pos 10 } ∷ record { x = pos 20 } ∷ record { x = pos 30 } ∷ []

abbrev pub web_strips : List StripRange
web_strips = record { a = pos 0; b = pos 10 } ∷ record { a = pos 20; b = pos 30 } ∷ []

abbrev pub web : RangeSpace
web = strip_meaning web_points web_strips

pub record WorkedCases : Type 0 where
  pub limits : WorkedLimits
  pub corner : box_holds (record { x0 = pos 10; y0 = pos 10; x1 = pos 20; y1 = pos 20 }) (record { x = pos 10; y = pos 10 }) ≡ true
  -- the first sweep of guess 1 marks point 2
  pub first_sweep : sweep_net 1 (ones 4) ≡ 0 ∷ 0 ∷ 1 ∷ 0 ∷ []
  -- range 0 is missed, and doubled to weights 2, 2, 1, 1
  pub first_miss : (lowest_missed web (marked (sweep_net 1 (ones 4))) ≡ Some 0) × (doubled web 0 (ones 4) ≡ 2 ∷ 2 ∷ 1 ∷ 1 ∷ [])

-- sweep and greedy mark just one net, lowest and lightest have just one answer: with them every placement is determined
pub record Determined : Type 0 where
  pub sweep : OneNet sweep_finder
  pub greedy : OneNet greedy_finder
  pub lowest : OneAnswer lowest_verifier
  pub lightest : OneAnswer lightest_verifier
