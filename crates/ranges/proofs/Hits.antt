-- The test whether a set hits a range, and the fact.
use Rattle.std.proofs.Common.{◌≡◌, ℕ, Bool, true}
use Rattle.std.proofs.lemmas.Bool.{and_from, and_parts, both_ways, not-true}
use Rattle.ranges.specs.Spaces.{RangeSpace, Within}
use Rattle.ranges.specs.Weights.{Hits, hits_at, hit, missed}
use Rattle.ranges.proofs.Searches.{any_decides, any_found}

module _ (S : RangeSpace) (within : Within S) (P : ℕ → Bool) (j : ℕ) where
  pub hit_from : Hits S P j → hit S P j ≡ true
  hit_from h =
      any_found (hits_at S P j) S.points h.0 (within.inside j h.0 h.2).1 (and_from _ _ h.1 h.2)

  pub hit_gives : hit S P j ≡ true → Hits S P j
  hit_gives e =
      let w = (any_decides (hits_at S P j) S.points).0 e in
      let both = and_parts _ _ w.2 in
      (w.0, both.0, both.1)

  pub missed_not : missed S P j ≡ true → Hits S P j → ⊥
  missed_not e h = both_ways (hit S P j) (not-true _ e) (hit_from h)
