-- What doublings of one point are worth beside an even share of them.
use Rattle.std.proofs.Common.{◌≡◌, ℕ, zero, suc, ◌+◌, ◌-◌, ◌*◌, ◌^◌, ◌≤◌, inl, inr, mul-le-mul_left, pow-suc, arith, pow-add}
use Rattle.std.proofs.lemmas.Bool.{cases_lt}

below_pow : (d : ℕ) → d + 1 ≤ 2 ^ d
below_pow zero = omega arith
below_pow (suc d) = let ih = below_pow d in rw (pow-suc 2 d) (omega arith)

-- a weight of e doublings, with q shares added, is at least e + 1 shares of 2 ^ q
pub two_pow : (e q : ℕ) → 2 ^ q * (e + 1) ≤ 2 ^ e + q * 2 ^ q
two_pow e q =
    elim (cases_lt e q) [
      | inl few ↦
          let up : e + 1 ≤ q = omega arith in
          let shares = mul-le-mul_left (2 ^ q) up in
          omega arith
      | inr many ↦
          let d = e - q in
          let is : e ≡ q + d = omega arith in
          let shares = mul-le-mul_left (2 ^ q) (below_pow d) in
          rw (is, pow-add 2 q d) (omega arith)
    ]
