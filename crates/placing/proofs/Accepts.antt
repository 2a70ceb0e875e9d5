-- Every call that place makes is accepted.
use Rattle.std.proofs.Common.{◌≡◌, ℕ, ◌<◌, ◌≤◌, true, false, not, ◌||◌, leb, length, Ok, refl, ap, ◌∙◌, arith}
use Rattle.std.proofs.lemmas.Bool.{cond-false, eq-eqb, ne_eqb, le-ltb}
use Rattle.ranges.specs.Spaces.{RangeSpace}
use Rattle.ranges.specs.Weights.{total}
use Rattle.guesses.specs.Books.{book_lines}
use Rattle.guesses.specs.Limits.{limit_of}
use Rattle.guesses.proofs.Limits.{limit_le}
use Rattle.runs.specs.declared.state.Phase.{Phase}
use Rattle.runs.specs.declared.state.Phase.TheVariants.{Blank, Idle, Guessing}
use Rattle.runs.specs.Runs.{Desk, is_blank, is_guessing, guess_of, other_space, round_check, open_check, SomeGuess, FewGuess, FewPoints}
use Rattle.placing.specs.Playing.{Fitted}

not_blank : (p : Phase) → is_guessing p ≡ true → is_blank p ≡ false
not_blank Blank e = ap not e
not_blank Idle e = refl
not_blank (Guessing g) e = refl

same_space : (S : RangeSpace) (need : ℕ) (d : Desk) → Fitted S need d → other_space S d.state ≡ false
same_space S need d fit = λ i. not (eq-eqb S.points d.state.n fit.points i) || not (eq-eqb S.ranges d.state.m fit.ranges i)

-- a leb that fails
lt_leb : (a b : ℕ) → b < a → leb a b ≡ false
lt_leb a b l = grind arith

pub round_accepted : (S : RangeSpace) (need : ℕ) (d : Desk) → Fitted S need d → SomeGuess d.state → FewGuess d.state → FewPoints d.state → is_guessing d.state.phase ≡ true
    → round_check S d.state d.weights (length d.marks) (length d.ledger) (length d.scratch) need ≡ Ok tt
round_accepted S need d fit some few points o =
    let k = (guess_of d.state.phase).k in
    let n-is = fit.points in
    let inside : k ≤ S.points = omega (arith, few o) in
    let most = limit_le S.points k (some o) inside (omega (arith, points o)) in
    cond-false _ _ _ (not_blank d.state.phase o)
    ∙ cond-false _ _ _ (same_space S need d fit)
    ∙ cond-false _ _ _ (λ i. not (eq-eqb (length d.weights) S.points fit.weights i) || not (eq-eqb (length d.marks) S.points fit.marks i))
    ∙ cond-false _ _ _ (ap not o)
    ∙ cond-false _ _ _ (le-ltb (length d.ledger) (limit_of S.points k) (omega (arith, fit.ledger)))
    ∙ cond-false _ _ _ (le-ltb (length d.scratch) need fit.scratch)
    ∙ cond-false _ _ _ (ap not (eq-eqb (total d.weights) _ (fit.whole o)))

pub open_accepted : (S : RangeSpace) (need k : ℕ) (d : Desk) → Fitted S need d → d.state.phase ≡ Idle → 0 < k → k ≤ S.points → S.points ≤ 4096 → d.state.floor < k → length (book_lines d.state.book) < 24
    → open_check S d.state k (length d.weights) (length d.ledger) ≡ Ok tt
open_accepted S need k d fit idle some few points above room =
    let most = limit_le S.points k some few points in
    cond-false _ _ _ (ap is_blank idle)
    ∙ cond-false _ _ _ (same_space S need d fit)
    ∙ cond-false _ _ _ (ap not (eq-eqb (length d.weights) S.points fit.weights))
    ∙ cond-false _ _ _ (ap is_guessing idle)
    ∙ cond-false _ _ _ (λ i. ne_eqb k 0 (λ e. omega arith) i || le-ltb S.points k few i)
    ∙ cond-false _ _ _ (lt_leb k d.state.floor above)
    ∙ cond-false _ _ _ (lt_leb 24 (length (book_lines d.state.book)) room)
    ∙ cond-false _ _ _ (le-ltb (length d.ledger) (limit_of S.points k) (omega (arith, fit.ledger)))
