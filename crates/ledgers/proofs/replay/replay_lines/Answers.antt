use Rattle.std.proofs.Common.{◌≡◌, ◌+◌, length, get_or, drop, sym, refl, ap, ◌∙◌, subst, le_of_eq}
use Rattle.std.proofs.lemmas.List.{at_drop_all}
use Rattle.ranges.specs.Weights.{total}
use Rattle.ledgers.specs.Doublings.{doubled, Grown}
use Rattle.ledgers.specs.Replays.{replayed, replayed_weights, no_range}
use Rattle.ledgers.proofs.Doublings.{grown_none, ones_long}
use Rattle.ledgers.proofs.Replays.{uncapped, grown_small, line_bad, line_good, line_grown, bad_not_accepted, accepted_more}
use Rattle.ledgers.proofs.replay.replay_lines.Goals as goal

pub loop-i-init : goal.loop-i-init
loop-i-init g c =
    (refl, refl, subst (λ ws. Grown (g.S.Space.meaning c.args.s.now).points c.args.k 0 (total ws)) (sym c.requires.weights) (grown_none (g.S.Space.meaning c.args.s.now).points c.args.k))

pub is_good-requires : goal.is_good-requires
is_good-requires g c = record {
  long = c.loop-i.auto.weights ∙ ap length c.requires.weights ∙ ones_long (g.S.Space.meaning c.args.s.now).points;
  small = grown_small (g.S.Space.meaning c.args.s.now) c.args.k c.loop-i.i (length c.args.ledger.now) c.loop-i.weights (g.met.S.Space.within c.args.s.now) c.requires.some c.requires.few (le_of_eq c.requires.lines) c.loop-i.auto.i-end c.loop-i.invariant.2;
}

pub returns-then-not-is_good : goal.returns-then-not-is_good
returns-then-not-is_good g c =
    let bad = line_bad (g.S.Space.meaning c.args.s.now) c.args.k c.loop-i.i c.loop-i.weights c.args.ledger.now no_range c.loop-i-test.true (sym c.if-not-is_good.ensures) in
    record { answer = sym bad.0 ∙ c.loop-i.invariant.0; weights = sym bad.1 ∙ c.loop-i.invariant.1; law = λ e. absurd (bad_not_accepted c.loop-i.i e) }

pub loop-i-preserved : goal.loop-i-preserved
loop-i-preserved g c =
    let line = (get_or c.args.ledger.now c.loop-i.i no_range).0 in
    let good-line = sym c.if-not-is_good.ensures in
    let long = c.loop-i.auto.weights ∙ ap length c.requires.weights ∙ ones_long (g.S.Space.meaning c.args.s.now).points in
    let small = grown_small (g.S.Space.meaning c.args.s.now) c.args.k c.loop-i.i (length c.args.ledger.now) c.loop-i.weights (g.met.S.Space.within c.args.s.now) c.requires.some c.requires.few (le_of_eq c.requires.lines) c.loop-i.auto.i-end c.loop-i.invariant.2 in
    let next : c.double_range.new.weights ≡ doubled (g.S.Space.meaning c.args.s.now) line c.loop-i.weights = c.double_range.ensures ∙ uncapped (g.S.Space.meaning c.args.s.now) line c.loop-i.weights small in
    let on = line_good (g.S.Space.meaning c.args.s.now) c.args.k c.loop-i.i c.loop-i.weights c.args.ledger.now no_range c.loop-i-test.true good-line in (
      ap (λ ws. replayed (g.S.Space.meaning c.args.s.now) c.args.k (c.loop-i.i + 1) ws (drop (c.loop-i.i + 1) c.args.ledger.now)) next ∙ sym on.0 ∙ c.loop-i.invariant.0,
      ap (λ ws. replayed_weights (g.S.Space.meaning c.args.s.now) c.args.k ws (drop (c.loop-i.i + 1) c.args.ledger.now)) next ∙ sym on.1 ∙ c.loop-i.invariant.1,
      subst (λ ws. Grown (g.S.Space.meaning c.args.s.now).points c.args.k (c.loop-i.i + 1) (total ws)) (sym next) (line_grown (g.S.Space.meaning c.args.s.now) c.args.k c.loop-i.i c.loop-i.weights line long good-line c.loop-i.invariant.2),
    )

pub returns : goal.returns
returns g c =
    let answer = sym (at_drop_all (replayed (g.S.Space.meaning c.args.s.now) c.args.k c.loop-i.i c.loop-i.weights) c.args.ledger.now c.loop-i.i c.loop-i-test.false) ∙ c.loop-i.invariant.0 in
    record {
      answer = answer;
      weights = sym (at_drop_all (replayed_weights (g.S.Space.meaning c.args.s.now) c.args.k c.loop-i.weights) c.args.ledger.now c.loop-i.i c.loop-i-test.false) ∙ c.loop-i.invariant.1;
      law = λ _. accepted_more (g.S.Space.meaning c.args.s.now) c.args.k c.args.ledger.now (g.met.S.Space.within c.args.s.now) c.requires.some c.requires.few c.requires.lines
          (sym (ap (λ ws. replayed (g.S.Space.meaning c.args.s.now) c.args.k 0 ws c.args.ledger.now) c.requires.weights) ∙ sym answer);
    }
