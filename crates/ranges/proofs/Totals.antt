-- What a range weighs, against the total.
use Rattle.std.proofs.Common.{◌≡◌, ℕ, ◌^◌, ◌≤◌, List, length, arith}
use Rattle.std.proofs.lemmas.Bool.{cond_both}
use Rattle.ranges.specs.Spaces.{RangeSpace}
use Rattle.ranges.specs.Weights.{weight_at, total, share, range_weight, capped}
use Rattle.ranges.proofs.Sums.{sum_le}

-- a range weighs at most the total
pub range_le_total : (S : RangeSpace) (ws : List ℕ) (j : ℕ) → length ws ≡ S.points → range_weight S ws j ≤ total ws
range_le_total S ws j long =
    rw long (sum_le (share S ws j) (weight_at ws) S.points (λ p l. cond_both (S.holds j p) (weight_at ws p) 0 (λ x. x ≤ weight_at ws p) (λ _. omega arith) (λ _. omega arith)))

pub range_uncapped : (S : RangeSpace) (ws : List ℕ) (j : ℕ) → length ws ≡ S.points → total ws ≤ 2 ^ 49 → capped (range_weight S ws j) ≡ range_weight S ws j
range_uncapped S ws j long small = omega (arith, range_le_total S ws j long)
