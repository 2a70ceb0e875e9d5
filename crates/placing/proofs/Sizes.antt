-- The sizes that place asks for suffice.
use Rattle.std.proofs.Common.{◌≡◌, ℕ, ◌+◌, ◌*◌, ◌^◌, ◌<◌, ◌≤◌, sym, ap, subst, inl, inr, pow-suc, add-one, arith, pow_mono}
use Rattle.std.proofs.lemmas.Bool.{cases_lt}
use Rattle.guesses.specs.Limits.{limit_of, doublings_of}
use Rattle.guesses.proofs.Sections.{sections_fit, doublings_half}
use Rattle.placing.specs.Playing.{Ruled, Room}

power_small : (count : ℕ) → 2 ^ count < 8192 → count ≤ 12
power_small count small =
    elim (cases_lt 12 count) [
      | inl more ↦ (let from : 13 ≤ count = omega arith in let most : 2 ^ 13 ≤ 2 ^ count = pow_mono from in absurd (omega arith))
      | inr less ↦ less
    ]

-- at most twelve guesses are ruled out, and their ledgers leave room for book, points and trailer
pub ruled_small : (n g count len : ℕ) → Ruled n g count len → n ≤ 4096 → (count ≤ 12) × (len ≤ 22 * n + 48)
ruled_small n g count len r few =
    let some = r.some in
    let fewer = r.fewer in
    let power = r.power in
    let short = r.short in
    let c : count ≤ 12 = power_small count (omega arith) in
    let fit = sections_fit n g some (omega arith) few in
    (c, omega arith)

pub room_small : (n k count len : ℕ) → Room n k count len → 0 < n → n ≤ 4096 → (0 < k) × (k ≤ n) × (count ≤ 12) × (len ≤ 22 * n + 48)
room_small n k count len (inl (is, none, bare)) some few = (omega arith, omega arith, omega arith, omega arith)
room_small n k count len (inr (g, r, is)) some few =
    let small = ruled_small n g count len r few in
    let above = r.some in
    (omega arith, omega arith, small.0, small.1)

-- a guess ruled out leaves room for the next
pub room_next : (n k count len : ℕ) → Room n k count len → n ≤ 4096 → k < n → Ruled n k (count + 1) (len + (4 + 2 * limit_of n k))
room_next n k count len (inl (is, none, bare)) few fewer =
    subst (λ (x : ℕ). Ruled n x (count + 1) (len + (4 + 2 * limit_of n x))) (sym is) (record {
      some = omega arith;
      fewer = omega arith;
      power = ap (λ c. 2 ^ (c + 1)) none;
      short = omega arith;
    })
room_next n k count len (inr (g, r, is)) few fewer =
    let some = r.some in
    let short = r.short in
    let power = r.power in
    let twice : k ≡ 2 * g = omega arith in
    let half = doublings_half n g some (omega arith) few in
    let step : 2 ^ (count + 1) ≡ 2 ^ count * 2 = rw (add-one, pow-suc 2 count) in
    subst (λ (x : ℕ). Ruled n x (count + 1) (len + (4 + 2 * limit_of n x))) (sym twice) (record {
      some = omega arith;
      fewer = omega arith;
      power = omega arith;
      short = longer n g count len (doublings_of n g) (doublings_of n (2 * g)) half short;
    })
  where
    longer : (n g count len t u : ℕ) → t ≡ u + 4 → len ≤ 4 * count + 4 * (g * (t + 4)) → len + (4 + 2 * ((2 * g) * u)) ≤ 4 * (count + 1) + 4 * ((2 * g) * (u + 4))
    longer n g count len t u is short = let more = ap (λ x. 4 * (g * (x + 4))) is in omega arith
