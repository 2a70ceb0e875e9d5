-- A ring of few enough points keeps the limits of every space.
use Rattle.std.proofs.Common.{ℕ, ◌≤◌, ◌&&◌, ltb, leb, arith}
use Rattle.std.proofs.lemmas.Bool.{and_parts, ltb-true}
use Rattle.ranges.specs.Spaces.{Within}
use Rattle.foreign.specs.Rings.{ring_space, steps_on}

pub ring_within : (n reach : ℕ) → n ≤ 4096 → Within (ring_space n reach)
ring_within n reach few = record {
  few_points = few;
  few_ranges = omega (arith, few);
  inside = λ j p held.
      let parts = and_parts (ltb j n) (ltb p n && leb (steps_on n j p) reach) held in
      (ltb-true j n parts.0, ltb-true p n (and_parts (ltb p n) (leb (steps_on n j p) reach) parts.1).0);
}
