-- A table of checks that came out accepted: each test failed.
use Rattle.std.proofs.Common.{◌≡◌, ℕ, ◌<◌, ◌≤◌, Bool, true, false, not, ◌||◌, eqb, ltb, Ok, Result, refl, arith}
use Rattle.std.proofs.lemmas.Bool.{or_parts, not-false, eqb-true, eqb-false, ltb-false}
use Rattle.ranges.specs.declared.refusal.Refusal.{Refusal}
use Rattle.ranges.specs.Refusals.{unless}

pub unless_ok : {A : Type 0} (b : Bool) (e : Refusal) (next : Result A Refusal) (u : A) → unless b e next ≡ Ok u → (b ≡ false) × (next ≡ Ok u)
unless_ok true e next u is = let z : ◌≡◌ {A = ℕ} 0 1 = cc in absurd (omega arith)
unless_ok false e next u is = (refl, is)

-- tests that failed, as facts
pub not_other : (a b : ℕ) → not (eqb a b) ≡ false → a ≡ b
not_other a b e = eqb-true a b (not-false (eqb a b) e)

pub neither_other : (a b c d : ℕ) → (not (eqb a b) || not (eqb c d)) ≡ false → (a ≡ b) × (c ≡ d)
neither_other a b c d e = let both = or_parts (not (eqb a b)) (not (eqb c d)) e in (not_other a b both.0, not_other c d both.1)

pub guess_inside : (n k : ℕ) → (eqb k 0 || ltb n k) ≡ false → (0 < k) × (k ≤ n)
guess_inside n k e =
    let both = or_parts (eqb k 0) (ltb n k) e in
    let some = eqb-false k 0 both.0 in
    (omega arith, ltb-false n k both.1)
