-- With one net and one answer for each question, there is just one placement.
use Rattle.std.proofs.Common.{◌≡◌, ℕ, ◌<◌, true, false, not, ◌⊎◌, List, ◌∷◌, ◌++◌, length, drop, Some, None, Option, sym, refl, ap, ◌∙◌, subst, inl, inr, arith}
use Rattle.std.proofs.lemmas.Bool.{both_ways, not-false, cases_lt}
use Rattle.ranges.specs.declared.refusal.Refusal.TheVariants.{RunBegun, RunBlank, OtherSpace, WrongLength, GuessOpen, GuessOutOfRange}
use Rattle.ranges.specs.Refusals.{unless}
use Rattle.ranges.specs.Spaces.{RangeSpace}
use Rattle.ranges.specs.Weights.{lowest_missed, chosen}
use Rattle.ranges.proofs.Checks.{unless_ok}
use Rattle.nets.specs.Finders.{FinderMeaning}
use Rattle.nets.specs.Verifiers.{VerifierMeaning}
use Rattle.guesses.specs.Limits.{limit_of}
use Rattle.runs.specs.declared.state.State.{State}
use Rattle.runs.specs.declared.state.Phase.{Phase}
use Rattle.runs.specs.declared.state.Phase.TheVariants.{Blank, Idle, Guessing}
use Rattle.runs.specs.Runs.{Desk, blank_state, is_blank, is_guessing, guess_of, other_space, empty_check, begun_state, room_check, round_desk}
use Rattle.runs.specs.Histories.{Event, begun, opened, judged, gave_up, refused, Step, begins, opens, hit_in}
use Rattle.placing.specs.Placements.{Turn, Way, here, on, all_rounds, Finished, placed_sheet, Placed, Buffers, OneNet, OneAnswer}
use Rattle.placing.proofs.Openings.{open_desk}
use Rattle.placing.proofs.Ends.{step_open}

-- begin finds a blank run, open one without an open guess
begin_blank : (S : RangeSpace) {d d' : Desk} → Step S d begun d' → (is_blank d.state.phase ≡ true) × (d' ≡ record { state = begun_state S; weights = d.weights; marks = d.marks; ledger = d.ledger; scratch = d.scratch })
begin_blank S (begins {d} check) = (not-false _ (unless_ok (not (is_blank d.state.phase)) RunBegun (empty_check (lowest_missed S (λ _. true))) tt check).0, refl)

open_idle : (S : RangeSpace) {k : ℕ} {d d' : Desk} → Step S d (opened k) d' → (is_blank d.state.phase ≡ false) × (is_guessing d.state.phase ≡ false) × (d' ≡ open_desk S k d)
open_idle S {k} (opens {d} check) =
    let guess = unless _ GuessOutOfRange (room_check d.state k (limit_of S.points k) (length d.ledger)) in
    let shut = unless (is_guessing d.state.phase) GuessOpen guess in
    let long = unless _ WrongLength shut in
    let a = unless_ok (is_blank d.state.phase) RunBlank (unless (other_space S d.state) OtherSpace long) tt check in
    let b = unless_ok (other_space S d.state) OtherSpace long tt a.1 in
    let e = unless_ok _ WrongLength shut tt b.1 in
    let f = unless_ok (is_guessing d.state.phase) GuessOpen guess tt e.1 in
    (a.0, f.0, refl)

blank_shut : (p : Phase) → is_blank p ≡ true → is_guessing p ≡ false
blank_shut Blank e = refl
blank_shut Idle e = refl
blank_shut (Guessing g) e = sym e

module _ (F : FinderMeaning) (V : VerifierMeaning) (S : RangeSpace) (one-net : OneNet F) (one_answer : OneAnswer V) where
  -- one step from one desk
  same_round : (d d₁ d₂ : Desk) (b c : ℕ) (ms ns : List ℕ) (o p : Option ℕ) (es : List Event) → Turn F V S es d (judged b ms o) d₁ → Turn F V S es d (judged c ns p) d₂ → (judged b ms o ≡ judged c ns p) × (d₁ ≡ d₂)
  same_round d d₁ d₂ b c ms ns o p es t u =
      let net = one-net S (guess_of d.state.phase).k d.weights ms ns t.1 u.1 in
      let bound = t.0 ∙ sym u.0 in
      let answer = one_answer S ns d.weights o p (subst (λ (x : List ℕ). V.picks S x d.weights o) net t.2) u.2 in
      ((λ i. judged (bound i) (net i) (answer i)), t.3 ∙ (λ i. round_desk S (F.need S.points S.ranges) d (net i) (answer i)) ∙ sym u.3)

  same_step : (es : List Event) (d d₁ d₂ : Desk) (e f : Event) → Step S d e d₁ → Turn F V S es d e d₁ → Step S d f d₂ → Turn F V S es d f d₂ → (e ≡ f) × (d₁ ≡ d₂)
  same_step es d d₁ d₂ begun begun s t r u = (refl, (begin_blank S s).1 ∙ sym (begin_blank S r).1)
  same_step es d d₁ d₂ begun (opened l) s t r u = absurd (both_ways (is_blank d.state.phase) (open_idle S r).0 (begin_blank S s).0)
  same_step es d d₁ d₂ begun (judged c ns p) s t r u = absurd (both_ways (is_guessing d.state.phase) (blank_shut d.state.phase (begin_blank S s).0) (step_open S r))
  same_step es d d₁ d₂ begun gave_up s t r u = absurd u
  same_step es d d₁ d₂ begun refused s t r u = absurd u
  same_step es d d₁ d₂ (opened k) begun s t r u = absurd (both_ways (is_blank d.state.phase) (open_idle S s).0 (begin_blank S r).0)
  same_step es d d₁ d₂ (opened k) (opened l) s t r u =
      let same = t.2 ∙ sym u.2 in
      (ap opened same, (open_idle S s).2 ∙ ap (λ x. open_desk S x d) same ∙ sym (open_idle S r).2)
  same_step es d d₁ d₂ (opened k) (judged c ns p) s t r u = absurd (both_ways (is_guessing d.state.phase) (open_idle S s).1 (step_open S r))
  same_step es d d₁ d₂ (opened k) gave_up s t r u = absurd u
  same_step es d d₁ d₂ (opened k) refused s t r u = absurd u
  same_step es d d₁ d₂ (judged b ms o) begun s t r u = absurd (both_ways (is_guessing d.state.phase) (blank_shut d.state.phase (begin_blank S r).0) (step_open S s))
  same_step es d d₁ d₂ (judged b ms o) (opened l) s t r u = absurd (both_ways (is_guessing d.state.phase) (open_idle S r).1 (step_open S s))
  same_step es d d₁ d₂ (judged b ms o) (judged c ns p) s t r u = same_round d d₁ d₂ b c ms ns o p es t u
  same_step es d d₁ d₂ (judged b ms o) gave_up s t r u = absurd u
  same_step es d d₁ d₂ (judged b ms o) refused s t r u = absurd u
  same_step es d d₁ d₂ gave_up f s t r u = absurd t
  same_step es d d₁ d₂ refused f s t r u = absurd t

  module _ (from : Desk) (blank : from.state ≡ blank_state) where
    -- ways of one length
    same_way : {es fs : List Event} {d d' : Desk} → Way F V S from es d → Way F V S from fs d' → length es ≡ length fs → (es ≡ fs) × (d ≡ d')
    same_way here here long = (refl, refl)
    same_way here (on w s t) long = absurd (omega arith)
    same_way (on w s t) here long = absurd (omega arith)
    same_way (on {es = es} {d = d} {d' = d₁} {e = e} w s t) (on {es = fs} {d = d'} {d' = d₂} {e = f} v r u) long =
        let before = same_way w v (omega arith) in
        let r' = subst (λ (x : Desk). Step S x f d₂) (sym before.1) r in
        let u' = subst (λ (x : Desk). Turn F V S es x f d₂) (sym before.1) (subst (λ (x : List Event). Turn F V S x d' f d₂) (sym before.0) u) in
        let both = same_step es d d₁ d₂ e f s t r' u' in
        ((λ i. both.0 i ∷ before.0 i), both.1)

    -- what came after n calls
    After : ℕ → Type 0
    After n = (es : List Event) × (d : Desk) × (e : Event) × (d' : Desk) × Way F V S from es d × (length es ≡ n) × Step S d e d' × Turn F V S es d e d'

    cut : (n : ℕ) {es : List Event} {d : Desk} → Way F V S from es d → n < length es → After n
    unfolding After
    cut n here more = absurd (omega arith)
    cut n (on {es = es} {d = d} {d' = d'} {e = e} w s t) more = elim (cases_lt n (length es)) [
      | inl l ↦ cut n w l
      | inr le ↦ (es, d, e, d', w, omega arith, s, t)
    ]

    -- an open guess was not hit, and there are ranges
    still_guessing : (es : List Event) (d d' : Desk) (e : Event) → Step S d e d' → Turn F V S es d e d' → (is_guessing d.state.phase ≡ true → 0 < S.ranges) → is_guessing d'.state.phase ≡ true
        → (hit_in (e ∷ es) ≡ false) × (0 < S.ranges)
    still_guessing es d d' begun s t before o = absurd (both_ways (is_guessing d'.state.phase) (ap (λ (x : Desk). is_guessing x.state.phase) (begin_blank S s).1) o)
    still_guessing es d d' (opened k) s t before o = (refl, t.0)
    still_guessing es d d' (judged b ms None) s t before o = absurd (both_ways (is_guessing d'.state.phase) (ap (λ (x : Desk). is_guessing x.state.phase) t.3) o)
    still_guessing es d d' (judged b ms (Some j)) s t before o = (refl, before (step_open S s))
    still_guessing es d d' gave_up s t before o = absurd t
    still_guessing es d d' refused s t before o = absurd t

    guessing : {es : List Event} {d : Desk} → Way F V S from es d → is_guessing d.state.phase ≡ true → (hit_in es ≡ false) × (0 < S.ranges)
    guessing here o = absurd (both_ways (is_guessing from.state.phase) (ap (λ (x : State). is_guessing x.phase) blank) o)
    guessing (on {es = es} {d = d} {d' = d'} {e = e} w s t) o = still_guessing es d d' e s t (λ q. (guessing w q).1) o

    -- nothing comes after the end
    cases_none : (m : ℕ) → (m ≡ 0) ⊎ (0 < m)
    cases_none m = elim (cases_lt 0 m) [ inl l ↦ inr l | inr le ↦ inl (omega arith) ]

    stuck : (es : List Event) (d d' : Desk) (e : Event) → Way F V S from es d → Finished S es → Step S d e d' → Turn F V S es d e d' → ⊥
    stuck es d d' begun w end s t = elim (cases_none S.ranges) [
      | inl none ↦ (let z : ◌≡◌ {A = ℕ} 0 1 = ap length (sym t ∙ end.0 none) in omega arith)
      | inr some ↦ both_ways true (sym (end.1 some) ∙ ap hit_in t) refl
    ]
    stuck es d d' (opened k) w end s t = both_ways (hit_in es) t.1 (end.1 t.0)
    stuck es d d' (judged b ms o) w end s t = let g = guessing w (step_open S s) in both_ways (hit_in es) g.0 (end.1 g.1)
    stuck es d d' gave_up w end s t = t
    stuck es d d' refused w end s t = t

    not_longer : {es fs : List Event} {d d' : Desk} → Way F V S from es d → Finished S es → Way F V S from fs d' → length es < length fs → ⊥
    unfolding After
    not_longer {es} {fs} {d} {d'} w end v more =
        let c = cut (length es) v more in
        let same = same_way w c.4 (sym c.5) in
        stuck c.0 c.1 c.3 c.2 c.4 (subst (Finished S) same.0 end) c.6 c.7

    pub only_way : {es fs : List Event} {d d' : Desk} → Way F V S from es d → Finished S es → Way F V S from fs d' → Finished S fs → (es ≡ fs) × (d ≡ d')
    only_way {es} {fs} w end v last = elim (cases_lt (length es) (length fs)) [
      | inl less ↦ absurd (not_longer w end v less)
      | inr le ↦ elim (cases_lt (length fs) (length es)) [
        | inl more ↦ absurd (not_longer v last w more)
        | inr ge ↦ same_way w v (omega arith)
      ]
    ]

    -- so the numbers and the bytes are the same
    pub only_placed : (sheet : List ℕ) (a b : ℕ × ℕ × ℕ × ℕ) (after other : Buffers) → Placed F V S from sheet a after → Placed F V S from sheet b other → (b ≡ a) × (other ≡ after)
    only_placed sheet a b after other p q =
        let x = p.2 in
        let y = q.2 in
        let same = only_way y.way y.finished x.way x.finished in
        let es-is = same.0 in
        let d-is = same.1 in
        let points = y.points_are ∙ ap (λ (d : Desk). chosen d.marks) d-is ∙ sym x.points_are in
        let floor = y.floor_is ∙ ap (λ (d : Desk). d.state.floor) d-is ∙ sym x.floor_is in
        let rounds = y.rounds_are ∙ ap all_rounds es-is ∙ sym x.rounds_are in
        let len = y.length_is ∙ (λ i. length (placed_sheet S (es-is i) (d-is i))) ∙ sym x.length_is in
        let bytes = y.sheet_is ∙ (λ i. placed_sheet S (es-is i) (d-is i) ++ drop (length (placed_sheet S (es-is i) (d-is i))) sheet) ∙ sym x.sheet_is in
        ((λ i. (points i, floor i, rounds i, len i)), (λ i. record { weights = (d-is i).weights; marks = (d-is i).marks; ledger = (d-is i).ledger; scratch = (d-is i).scratch; sheet = bytes i }))
