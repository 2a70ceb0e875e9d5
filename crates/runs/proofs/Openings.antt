-- An accepted open leaves a guess as every run keeps it.
use Rattle.std.proofs.Common.{◌≡◌, ℕ, ◌+◌, ◌*◌, ◌<◌, ◌≤◌, not, ◌||◌, eqb, ltb, Ok, sym, subst, arith}
use native.Mathlib.Nat.{pow-zero}
use Rattle.ranges.specs.declared.refusal.Refusal.TheVariants.{RunBlank, OtherSpace, WrongLength, GuessOpen, GuessOutOfRange}
use Rattle.ranges.specs.Refusals.{unless}
use Rattle.ranges.specs.Spaces.{RangeSpace, Within}
use Rattle.ranges.proofs.Checks.{unless_ok, neither_other, guess_inside}
use Rattle.guesses.specs.Limits.{limit_of}
use Rattle.guesses.proofs.Limits.{limit_pos}
use Rattle.ledgers.specs.Doublings.{Grown}
use Rattle.runs.specs.declared.state.State.{State}
use Rattle.runs.specs.Runs.{open_check, room_check, open_state, is_blank, is_guessing, other_space, SomeGuess, FewGuess, FewPoints, Unfinished, GrownTotal}

-- what an accepted open found
pub open_ready : (S : RangeSpace) (st : State) (k weights ledger : ℕ) → Within S → open_check S st k weights ledger ≡ Ok tt → (0 < k) × (k ≤ st.n) × (st.n ≤ 4096)
open_ready S st k weights ledger within e =
    let room = room_check st k (limit_of S.points k) ledger in
    let guess = unless (eqb k 0 || ltb S.points k) GuessOutOfRange room in
    let shut = unless (is_guessing st.phase) GuessOpen guess in
    let long = unless (not (eqb weights S.points)) WrongLength shut in
    let known = (unless_ok (is_blank st.phase) RunBlank (unless (other_space S st) OtherSpace long) tt e).1 in
    let same = unless_ok (other_space S st) OtherSpace long tt known in
    let fits = (unless_ok (not (eqb weights S.points)) WrongLength shut tt same.1).1 in
    let none_open = (unless_ok (is_guessing st.phase) GuessOpen guess tt fits).1 in
    let counts = neither_other S.points st.n S.ranges st.m same.0 in
    let inside = guess_inside S.points k (unless_ok (eqb k 0 || ltb S.points k) GuessOutOfRange room tt none_open).0 in
    let few = within.few_points in
    (inside.0, omega (arith, inside.1, counts.0), omega (arith, counts.0))

fresh_grown : (n k : ℕ) → Grown n k 0 n
fresh_grown n k = rw (pow-zero (2 * k), pow-zero (2 * k + 1)) (omega arith)

-- all that a run keeps of its open guess
abbrev pub Kept : State → Type 0
Kept st = SomeGuess st × (FewGuess st × (FewPoints st × (Unfinished st × (GrownTotal st × Unit {0}))))

pub open_keeps : (st next : State) (k : ℕ) → next ≡ open_state st k → 0 < k → k ≤ st.n → st.n ≤ 4096
    → Kept next
open_keeps st next k is some few small =
    subst Kept (sym is)
    ((λ _. some), ((λ _. few), ((λ _. small), ((λ _. limit_pos st.n k some few), ((λ _. fresh_grown st.n k), tt)))))
