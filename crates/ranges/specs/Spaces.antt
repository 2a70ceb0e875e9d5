-- What a space means: n points, M ranges, and which range holds which point.
use Rattle.std.specs.Prelude.{◌≡◌, ℕ, ◌<◌, ◌≤◌, Bool, true, false, ◌&&◌, nat_le, nat_lt}

pub record RangeSpace : Type 0 where
  pub points : ℕ
  pub ranges : ℕ
  pub holds : ℕ → ℕ → Bool

-- the counts keep their limits, and nothing beyond a count is held
pub record Within (S : RangeSpace) : Type 0 where
  pub few_points : S.points ≤ 4096
  pub few_ranges : S.ranges ≤ 16384
  pub inside : (j p : ℕ) → S.holds j p ≡ true → (j < S.ranges) × (p < S.points)

-- every range is the stretch of points from its first up to, not including, its end
pub record Ordered (S : RangeSpace) (first end : ℕ → ℕ) : Type 0 where
  pub members : (j p : ℕ) → S.holds j p ≡ (nat_le (first j) p && nat_lt p (end j))
  pub beyond : (j : ℕ) → S.ranges ≤ j → (first j ≡ 0) × (end j ≡ 0)

-- the space without points and ranges
abbrev pub empty_space : RangeSpace
empty_space = record { points = 0; ranges = 0; holds = λ _ _. false }
