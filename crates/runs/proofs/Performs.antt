-- Calls as steps of a history.
use Rattle.std.proofs.Common.{◌≡◌, ℕ, ◌+◌, ◌<◌, Bool, true, false, cond, not, List, [], ◌∷◌, ◌++◌, reverse, length, get_or, take, is_ok, Ok, Err, Option, Result, sym, refl, ap, ◌∙◌, subst, arith}
use Rattle.std.proofs.lemmas.List.{reverse-append, take_more}
use Rattle.ranges.specs.declared.refusal.Refusal.{Refusal}
use Rattle.ledgers.specs.Doublings.{ones}
use Rattle.ranges.specs.Spaces.{RangeSpace, Within}
use Rattle.nets.specs.Finders.{Asked, FinderMeaning, FinderSound}
use Rattle.nets.specs.Verifiers.{VerifierMeaning, VerifierSound}
use Rattle.runs.specs.declared.state.State.{State}
use Rattle.runs.specs.Runs.{Desk, guess_of, accepted, begin_check, begun_state, open_check, open_state, round_check, round_desk, give_up_check, gave_up_state, SomeGuess, FewGuess, FewPoints, Unfinished, GrownTotal}
use Rattle.runs.specs.declared.call.Call.{Call}
use Rattle.runs.specs.Histories.{Event, begun, opened, judged, gave_up, refused, Step, begins, opens, judges, gives_up, refuses, History, next, Lawful, Along, RoundDone, Request, to_begin, to_open, to_round, to_give_up, check_of, ComesTo, Performed, Plays, Clears, PlaysClearing, AllPerformed, AllPerformedClearing, is_refused, accepted_in, request_of, requests}
use Rattle.runs.proofs.Rounds.{guess_small, passed}
use Rattle.runs.proofs.Laws.{lawful, along}

-- an accepted round is a step, by its finder's and its verifier's word
pub round_step : (F : FinderMeaning) (V : VerifierMeaning) (S : RangeSpace) (d after : Desk) (ms : List ℕ) (o : Option ℕ) → FinderSound F → VerifierSound V → Within S
    → SomeGuess d.state → FewGuess d.state → FewPoints d.state → Unfinished d.state → GrownTotal d.state
    → round_check S d.state d.weights (length d.marks) (length d.ledger) (length d.scratch) (F.need S.points S.ranges) ≡ Ok tt
    → F.nets S (guess_of d.state.phase).k d.weights ms → V.picks S ms d.weights o → after ≡ round_desk S (F.need S.points S.ranges) d ms o
    → Step S d (judged (F.bound S.points S.ranges (guess_of d.state.phase).k) ms o) after
round_step F V S d after ms o finder verifier within some few points early grown check net picked is =
    let p = passed S d.state d.weights (length d.marks) (length d.ledger) (length d.scratch) (F.need S.points S.ranges) check in
    let open-now = p.open_guess in
    let asked : Asked S (guess_of d.state.phase).k d.weights = record {
      within = within;
      long = p.long;
      some = some open-now;
      few = omega (arith, few open-now, p.same);
      small = omega (arith, p.whole, guess_small d.state some few points early grown open-now);
    } in
    subst (Step S d (judged (F.bound S.points S.ranges (guess_of d.state.phase).k) ms o)) (sym is)
    (judges (F.need S.points S.ranges) check (finder S (guess_of d.state.phase).k d.weights ms asked net) (verifier S ms d.weights o within picked))

-- a step goes on lawfully
pub step_law : (S : RangeSpace) → Within S → {d d' : Desk} {e : Event} → Step S d e d' → (es : List Event) → History S es d → (f : Event) × History S (f ∷ es) d' × Lawful S (f ∷ es) d'
step_law S within {e = e} s es h = (e, next h s, lawful S within (e ∷ es) _ (next h s))

pub refused_law : (S : RangeSpace) → Within S → (d d' : Desk) → d' ≡ d → (es : List Event) → History S es d → (f : Event) × History S (f ∷ es) d' × Lawful S (f ∷ es) d'
refused_law S within d d' is = subst (λ (x : Desk). (es : List Event) → History S es d → (f : Event) × History S (f ∷ es) x × Lawful S (f ∷ es) x) (sym is) (step_law S within refuses)

-- each call, as its contract tells it, is performed
abbrev pub desk_with : Desk → State → List ℕ → Desk
desk_with d st ws = record { state = st; weights = ws; marks = d.marks; ledger = d.ledger; scratch = d.scratch }

pub begin_performed : (S : RangeSpace) (d after : Desk) (r : Result Unit Refusal) → r ≡ begin_check S d.state → after ≡ desk_with d (accepted r (begun_state S) d.state) d.weights → Performed S to_begin r d after
begin_performed S d after (Ok u) check is = (check, (begun, subst (Step S d begun) (sym is) (begins (sym check)), refl))
begin_performed S d after (Err f) check is = (check, (refused, subst (Step S d refused) (sym is) refuses, refl))

pub open_performed : (S : RangeSpace) (k : ℕ) (d after : Desk) (r : Result Unit Refusal) → r ≡ open_check S d.state k (length d.weights) (length d.ledger)
    → after ≡ desk_with d (accepted r (open_state d.state k) d.state) (accepted r (ones S.points) d.weights) → Performed S (to_open k) r d after
open_performed S k d after (Ok u) check is = (check, (opened k, subst (Step S d (opened k)) (sym is) (opens (sym check)), refl))
open_performed S k d after (Err f) check is = (check, (refused, subst (Step S d refused) (sym is) refuses, refl))

pub give_up_performed : (S : RangeSpace) (d after : Desk) (r : Result Unit Refusal) → r ≡ give_up_check d.state → after ≡ desk_with d (accepted r (gave_up_state d.state) d.state) d.weights → Performed S to_give_up r d after
give_up_performed S d after (Ok u) check is = (check, (gave_up, subst (Step S d gave_up) (sym is) (gives_up (sym check)), refl))
give_up_performed S d after (Err f) check is = (check, (refused, subst (Step S d refused) (sym is) refuses, refl))

pub round_performed : (F : FinderMeaning) (V : VerifierMeaning) (S : RangeSpace) (d after : Desk) (r : Result Unit Refusal) → FinderSound F → VerifierSound V → Within S
    → SomeGuess d.state → FewGuess d.state → FewPoints d.state → Unfinished d.state → GrownTotal d.state
    → r ≡ round_check S d.state d.weights (length d.marks) (length d.ledger) (length d.scratch) (F.need S.points S.ranges) → RoundDone F V S r d after → Performed S (to_round F V) r d after
round_performed F V S d after (Ok u) finder verifier within some few points early grown check done = (
  check,
  (
    judged (F.bound S.points S.ranges (guess_of d.state.phase).k) after.marks done.0,
    round_step F V S d after after.marks done.0 finder verifier within some few points early grown (sym check) done.1 done.2 done.3,
    (refl, done.1, done.2),
  ),
)
round_performed F V S d after (Err f) finder verifier within some few points early grown check done = (check, (refused, subst (Step S d refused) (sym done) refuses, refl))

-- an accepted round clears its finder's need
pub round_clears : (F : FinderMeaning) (V : VerifierMeaning) (S : RangeSpace) (d after : Desk) (r : Result Unit Refusal) → RoundDone F V S r d after → Clears S (to_round F V) r d after
round_clears F V S d after (Ok u) done = ap (λ (x : Desk). x.scratch) done.3
round_clears F V S d after (Err f) done = tt

-- one call more
clearing_more : (S : RangeSpace) (qs : List Request) (q : Request) (d m d' : Desk) (fs : List Event) (e : Event) → PlaysClearing S qs d fs m → Step S m e d' → ComesTo S q (check_of S q m) m e
    → Clears S q (check_of S q m) m d' → PlaysClearing S (qs ++ q ∷ []) d (fs ++ e ∷ []) d'
clearing_more S [] q d m d' [] e before step comes clears =
    subst (λ (x : Desk). (y : Desk) × Step S x e y × ComesTo S q (check_of S q x) x e × Clears S q (check_of S q x) x y × (d' ≡ y)) before (d', step, comes, clears, refl)
clearing_more S [] q d m d' (f ∷ fs) e before step comes clears = absurd before
clearing_more S (p ∷ qs) q d m d' [] e before step comes clears = absurd before
clearing_more S (p ∷ qs) q d m d' (f ∷ fs) e before step comes clears = (before.0, before.1, before.2, before.3, clearing_more S qs q before.0 m d' fs e before.4 step comes clears)

plays : (S : RangeSpace) (qs : List Request) (d d' : Desk) (fs : List Event) → PlaysClearing S qs d fs d' → Plays S qs d fs d'
plays S [] d d' [] p = p
plays S [] d d' (e ∷ fs) p = absurd p
plays S (q ∷ qs) d d' [] p = absurd p
plays S (q ∷ qs) d d' (e ∷ fs) p = (p.0, p.1, p.2, plays S qs p.0 d' fs p.4)

pub all_performed : (S : RangeSpace) (qs : List Request) (d d' : Desk) (count : ℕ) → AllPerformedClearing S qs d d' count → AllPerformed S qs d d' count
all_performed S qs d d' count all = (all.0, plays S qs d d' all.0 all.1, all.2, all.3)

accepted_more : (fs : List Event) (e : Event) → accepted_in (fs ++ e ∷ []) ≡ accepted_in fs + cond (is_refused e) 0 1
accepted_more [] e = refl
accepted_more (f ∷ fs) e = omega (arith, accepted_more fs e)

comes_accepted : (S : RangeSpace) (q : Request) (r : Result Unit Refusal) (d : Desk) (e : Event) → ComesTo S q r d e → is_refused e ≡ not (is_ok r)
comes_accepted S to_begin (Ok u) d e is = ap is_refused is
comes_accepted S (to_open k) (Ok u) d e is = ap is_refused is
comes_accepted S (to_round F V) (Ok u) d begun is = absurd is
comes_accepted S (to_round F V) (Ok u) d (opened k) is = absurd is
comes_accepted S (to_round F V) (Ok u) d (judged b ms o) is = refl
comes_accepted S (to_round F V) (Ok u) d gave_up is = absurd is
comes_accepted S (to_round F V) (Ok u) d refused is = absurd is
comes_accepted S to_give_up (Ok u) d e is = ap is_refused is
comes_accepted S q (Err f) d e is = ap is_refused is

pub none_performed : (S : RangeSpace) (d : Desk) → Within S → AllPerformedClearing S [] d d 0
none_performed S d within = ([], refl, refl, λ es h. (h, along S within h))

pub more_performed : (S : RangeSpace) → Within S → (qs : List Request) (q : Request) (d m d' : Desk) (r : Result Unit Refusal) (count next-count : ℕ) → AllPerformedClearing S qs d m count → Performed S q r m d'
    → Clears S q r m d' → next-count ≡ count + cond (is_ok r) 1 0 → AllPerformedClearing S (qs ++ q ∷ []) d d' next-count
more_performed S within qs q d m d' r count next-count before now clears counted =
    let fs = before.0 in
    let e = now.1.0 in
    let comes = subst (λ (x : Result Unit Refusal). ComesTo S q x m e) now.0 now.1.2 in
    let way : reverse (fs ++ e ∷ []) ≡ e ∷ reverse fs = reverse-append fs (e ∷ []) in
    let one : cond {A = ℕ} (is_refused e) 0 1 ≡ cond (is_ok r) 1 0 = ap (λ b. cond b 0 1) (comes_accepted S q r m e now.1.2) ∙ turned (is_ok r) in (
      fs ++ e ∷ [],
      clearing_more S qs q d m d' fs e before.1 now.1.1 comes (subst (λ (x : Result Unit Refusal). Clears S q x m d') now.0 clears),
      accepted_more fs e ∙ omega (arith, before.2, one, counted),
      λ es h. (let on : History S (e ∷ (reverse fs ++ es)) d' = next (before.3 es h).0 now.1.1 in
          let all : (x : History S (e ∷ (reverse fs ++ es)) d') × Along x = (on, along S within on) in
          subst (λ (xs : List Event). (x : History S (xs ++ es) d') × Along x) (sym way) all),
    )
  where
    turned : (b : Bool) → cond {A = ℕ} (not b) 0 1 ≡ cond b 1 0
    turned true = refl
    turned false = refl

-- the requests of one call more
pub requests_more : {F V : Type 0} (finder : F → FinderMeaning) (verifier : V → VerifierMeaning) (cs : List (Call F V)) (i : ℕ) (c : Call F V) → i < length cs → c ≡ get_or cs i c
    → requests finder verifier (take (i + 1) cs) ≡ requests finder verifier (take i cs) ++ request_of finder verifier c ∷ []
requests_more finder verifier cs i c inside is =
    ap (requests finder verifier) (take_more cs i c inside) ∙ requests_push (take i cs) (get_or cs i c) ∙ ap (λ x. requests finder verifier (take i cs) ++ request_of finder verifier x ∷ []) (sym is)
  where
    requests_push : (xs : List (Call _ _)) (x : Call _ _) → requests finder verifier (xs ++ x ∷ []) ≡ requests finder verifier xs ++ request_of finder verifier x ∷ []
    requests_push [] x = refl
    requests_push (y ∷ xs) x = ap (λ rest. request_of finder verifier y ∷ rest) (requests_push xs x)
