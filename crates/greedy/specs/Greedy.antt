-- The greedy finder: while a heavy range is not hit, the point that lies in most of them is marked.
use Rattle.std.specs.Prelude.{◌≡◌, ℕ, zero, suc, ◌-◌, ◌*◌, min, Bool, false, cond, ◌&&◌, ◌||◌, List, ◌==◌, nat_lt}
use Rattle.std.specs.Int.Count.{count_leading_zeros}
use Rattle.ranges.specs.Below.{count_below, any_below}
use Rattle.ranges.specs.Spaces.{RangeSpace}
use Rattle.ranges.specs.Weights.{heavy, missed, tabulated}
use Rattle.nets.specs.Finders.{FinderMeaning}

-- a heavy range that the set misses
abbrev pub unhit : RangeSpace → ℕ → List ℕ → (ℕ → Bool) → ℕ → Bool
unhit S k ws P j = heavy S k ws j && missed S P j

-- in how many heavy ranges that the set misses a point lies
abbrev pub gain : RangeSpace → ℕ → List ℕ → (ℕ → Bool) → ℕ → ℕ
gain S k ws P p = count_below (λ j. unhit S k ws P j && S.holds j p) S.ranges

-- the lowest number below n with the largest value, 0 where there is none
abbrev pub best_below : (ℕ → ℕ) → ℕ → ℕ
best_below f zero = 0
best_below f (suc n) = cond (nat_lt (f (best_below f n)) (f n)) n (best_below f n)

-- the point with the largest gain, the lowest number among equals
abbrev pub best_point : RangeSpace → ℕ → List ℕ → (ℕ → Bool) → ℕ
best_point S k ws P = best_below (gain S k ws P) S.points

-- a set and one more point
abbrev pub adding : (ℕ → Bool) → ℕ → ℕ → Bool
adding P q p = P p || p == q

-- the set after at most `turns` more marks
abbrev pub greedy_set : RangeSpace → ℕ → List ℕ → ℕ → (ℕ → Bool) → ℕ → Bool
greedy_set S k ws zero P = P
greedy_set S k ws (suc turns) P =
    cond (any_below (unhit S k ws P) S.ranges) (greedy_set S k ws turns (adding P (best_point S k ws P))) P

-- the set that is marked: as many turns as points suffice, since no point is marked twice
abbrev pub greedy_points : RangeSpace → ℕ → List ℕ → ℕ → Bool
greedy_points S k ws = greedy_set S k ws S.points (λ _. false)

abbrev pub greedy_net : RangeSpace → ℕ → List ℕ → List ℕ
greedy_net S k ws = tabulated (λ p. cond (greedy_points S k ws p) 1 0) S.points

-- b: the count of binary digits, none for 0
abbrev pub digits : ℕ → ℕ
digits m = 16 - count_leading_zeros 16 m

abbrev pub greedy_bound : ℕ → ℕ → ℕ → ℕ
greedy_bound n m k = min n (2 * k * digits m)

abbrev pub greedy_finder : FinderMeaning
greedy_finder = record {
  bound = greedy_bound;
  need = λ n m. m;
  nets = λ S k ws ms. ms ≡ greedy_net S k ws;
}
