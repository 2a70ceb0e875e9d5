-- What a round's checks give, and that a round keeps what every run keeps.
use Rattle.std.proofs.Common.{◌≡◌, ℕ, ◌+◌, ◌*◌, ◌^◌, ◌<◌, ◌≤◌, true, false, not, ◌||◌, eqb, ltb, List, length, Some, Ok, Err, Option, Result, sym, refl, ◌∙◌, subst, inl, inr, le_of_lt, arith}
use Rattle.std.proofs.lemmas.Bool.{ltb-false, le-ltb, eq-eqb, ne_eqb, not-false, cases_Bool, cond-true, cond-false, both_ways, eqb-false}
use Rattle.ranges.specs.declared.number.RangeNumber.{RangeNumber}
use Rattle.ranges.specs.declared.refusal.Refusal.{Refusal}
use Rattle.ranges.specs.declared.refusal.Refusal.TheVariants.{RunBlank, OtherSpace, WrongLength, NoGuessOpen, LedgerLength, ShortScratch, WrongTotal}
use Rattle.ranges.specs.Refusals.{unless}
use Rattle.ranges.specs.Spaces.{RangeSpace, Within}
use Rattle.ranges.specs.Weights.{total, range_weight, range_of, heavy, marked, Hits}
use Rattle.ranges.proofs.Checks.{unless_ok, neither_other, not_other}
use Rattle.nets.specs.Finders.{find_check, Asked, Net, FinderMeaning, FinderSound}
use Rattle.nets.specs.Verifiers.{VerifierMeaning, VerifierSound}
use Rattle.guesses.specs.Limits.{limit_of}
use Rattle.guesses.proofs.Growth.{total_bound}
use Rattle.ledgers.specs.Doublings.{Grown}
use Rattle.ledgers.proofs.Doublings.{grown_once}
use Rattle.runs.specs.declared.state.OpenGuess.{OpenGuess}
use Rattle.runs.specs.declared.state.State.{State}
use Rattle.runs.specs.Runs.{is_blank, is_guessing, guess_of, other_space, round_check, or_guess, miss_state, rules_out, Ready, SomeGuess, FewGuess, FewPoints, Unfinished, GrownTotal}
use Rattle.runs.proofs.Openings.{Kept}

pub or_guess_ok : (x : Result Unit Refusal) (g h : OpenGuess) → Ok h ≡ or_guess x g → (Ok tt ≡ x) × (h ≡ g)
or_guess_ok (Ok u) g h is = (refl, (cc))
or_guess_ok (Err f) g h is = let z : ◌≡◌ {A = ℕ} 0 1 = cc in absurd (omega arith)

-- an open guess has a small total
pub guess_small : (st : State) → SomeGuess st → FewGuess st → FewPoints st → Unfinished st → GrownTotal st → is_guessing st.phase ≡ true → (guess_of st.phase).total ≤ 2 ^ 49
guess_small st some few points early grown is_open =
    total_bound st.n (guess_of st.phase).k (guess_of st.phase).doublings (guess_of st.phase).total (some is_open) (few is_open) (points is_open) (le_of_lt (early is_open)) (grown is_open)

-- a finder's checks come out accepted
find_ok : (S : RangeSpace) (k : ℕ) (ws : List ℕ) (marks scratch need : ℕ) → length ws ≡ S.points → marks ≡ S.points → 0 < k → k ≤ S.points → need ≤ scratch → total ws ≤ 2 ^ 49 → find_check S k ws marks scratch need ≡ Ok tt
find_ok S k ws marks scratch need long marked-long some few enough small =
    let a : (not (eqb (length ws) S.points) || not (eqb marks S.points)) ≡ false = (λ d. not (eq-eqb _ _ long d) || not (eq-eqb _ _ marked-long d)) in
    let b : (eqb k 0 || ltb S.points k) ≡ false = (λ d. ne_eqb k 0 (λ e. omega arith) d || le-ltb S.points k few d) in
    cond-false _ _ _ a ∙ cond-false _ _ _ b ∙ cond-false _ _ _ (le-ltb scratch need enough) ∙ cond-false _ _ _ (le-ltb (2 ^ 49) (total ws) small)

-- what a round's checks found
module _ (S : RangeSpace) (st : State) (ws : List ℕ) (marks ledger scratch need : ℕ) where
  pub record Passed : Type 0 where
    pub open_guess : is_guessing st.phase ≡ true
    pub same : S.points ≡ st.n
    pub long : length ws ≡ S.points
    pub marks_long : marks ≡ S.points
    pub lines : limit_of S.points (guess_of st.phase).k ≤ ledger
    pub enough : need ≤ scratch
    pub whole : total ws ≡ (guess_of st.phase).total

  pub passed : round_check S st ws marks ledger scratch need ≡ Ok tt → Passed
  passed e =
      let g = guess_of st.phase in
      let last = unless (not (eqb (total ws) g.total)) WrongTotal (Ok tt) in
      let room = unless (ltb scratch need) ShortScratch last in
      let buffers = unless (ltb ledger (limit_of S.points g.k)) LedgerLength room in
      let guess = unless (not (is_guessing st.phase)) NoGuessOpen buffers in
      let lengths = unless (not (eqb (length ws) S.points) || not (eqb marks S.points)) WrongLength guess in
      let a = unless_ok (is_blank st.phase) RunBlank (unless (other_space S st) OtherSpace lengths) tt e in
      let b = unless_ok (other_space S st) OtherSpace lengths tt a.1 in
      let c = unless_ok (not (eqb (length ws) S.points) || not (eqb marks S.points)) WrongLength guess tt b.1 in
      let d = unless_ok (not (is_guessing st.phase)) NoGuessOpen buffers tt c.1 in
      let f = unless_ok (ltb ledger (limit_of S.points g.k)) LedgerLength room tt d.1 in
      let h = unless_ok (ltb scratch need) ShortScratch last tt f.1 in
      let i = unless_ok (not (eqb (total ws) g.total)) WrongTotal (Ok tt) tt h.1 in
      let both = neither_other (length ws) S.points marks S.points c.0 in
      record {
        open_guess = not-false (is_guessing st.phase) d.0;
        same = (neither_other S.points st.n S.ranges st.m b.0).0;
        long = both.0;
        marks_long = both.1;
        lines = ltb-false ledger _ f.0;
        enough = ltb-false scratch need h.0;
        whole = not_other (total ws) g.total i.0;
      }

  pub round_ready : Within S → SomeGuess st → FewGuess st → FewPoints st → Unfinished st → GrownTotal st → (r : Result OpenGuess Refusal)
      → r ≡ or_guess (round_check S st ws marks ledger scratch need) (guess_of st.phase) → Ready S st ws marks ledger scratch need r
  round_ready within some few points early grown (Err e) is = tt
  round_ready within some few points early grown (Ok h) is =
      let parts = or_guess_ok (round_check S st ws marks ledger scratch need) (guess_of st.phase) h is in
      let p = passed (sym parts.0) in
      let o = p.open_guess in
      let small : total ws ≤ 2 ^ 49 = omega (arith, p.whole, guess_small st some few points early grown o) in
      subst (λ (x : OpenGuess). Ready S st ws marks ledger scratch need (Ok x)) (sym parts.1) (
        find_ok S (guess_of st.phase).k ws marks scratch need p.long p.marks_long (some o) (omega (arith, few o, p.same)) p.enough small,
        o,
        p.same,
        p.long,
        p.whole,
        small,
        some o,
        few o,
        points o,
        early o,
        subst (λ (n : ℕ). limit_of n (guess_of st.phase).k ≤ ledger) p.same p.lines,
        refl,
        sym parts.0,
        within,
      )

-- a range that a net misses is light
pub missed_light : (S : RangeSpace) (k : ℕ) (ws ms : List ℕ) (bound j : ℕ) → Net S k ws bound ms → j < S.ranges → (Hits S (marked ms) j → ⊥) → 2 * k * range_weight S ws j ≤ total ws
missed_light S k ws ms bound j net exists unhit =
    elim (cases_Bool (heavy S k ws j)) [ inl e ↦ absurd (unhit (net.hits j exists e)) | inr e ↦ ltb-false _ _ e ]

-- so is the range that a verifier names, of a net that a finder marked
pub judged_light : (F : FinderMeaning) (V : VerifierMeaning) (S : RangeSpace) (k : ℕ) (ws ms : List ℕ) (o : Option RangeNumber) (j : RangeNumber) → FinderSound F → VerifierSound V → Asked S k ws
    → F.nets S k ws ms → V.picks S ms ws (range_of o) → o ≡ Some j → 2 * k * range_weight S ws j.0 ≤ total ws
judged_light F V S k ws ms o j finder verifier asked net picked is =
    let judged = verifier S ms ws (Some j.0) asked.within (subst (λ (x : Option RangeNumber). V.picks S ms ws (range_of x)) is picked) in
    missed_light S k ws ms _ j.0 (finder S k ws ms asked net) judged.0 judged.1

-- a doubled light range keeps what a run keeps
pub miss_keeps : (st next : State) (g : OpenGuess) (w : ℕ) → next ≡ miss_state st g w → 0 < g.k → g.k ≤ st.n → st.n ≤ 4096 → g.doublings < limit_of st.n g.k
    → Grown st.n g.k g.doublings g.total → 2 * g.k * w ≤ g.total → Kept next
miss_keeps st next g w is some few points early grown light =
    subst Kept (sym is) (elim (cases_Bool (rules_out st.n g.k (g.doublings + 1))) [
      | inl last ↦ subst Kept (sym (cond-true _ _ _ last)) ((λ e. absurd (shut e)), ((λ e. absurd (shut e)), ((λ e. absurd (shut e)), ((λ e. absurd (shut e)), ((λ e. absurd (shut e)), tt)))))
      | inr goes_on ↦ subst Kept (sym (cond-false _ _ _ goes_on)) (
        (λ _. some),
        (
          (λ _. few),
          (
            (λ _. points),
            (
              (λ _. (let not_yet = eqb-false (g.doublings + 1) (limit_of st.n g.k) goes_on in omega arith)),
              ((λ _. grown_once st.n g.k g.doublings g.total w light grown), tt),
            ),
          ),
        ),
      )
    ])
  where
    shut : false ≡ true → ⊥
    shut e = both_ways true (sym e) refl
