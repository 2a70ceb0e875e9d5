use Rattle.std.proofs.Common.{◌≡◌, sym, ap, ◌∙◌, rules}
use Rattle.ledgers.specs.Doublings.{ones}
use Rattle.ledgers.specs.Replays.{replay_weights, replayed_weights}
use Rattle.ledgers.proofs.Replays.{lines_weights}
use Rattle.ledgers.proofs.replay.replay.Goals as goal

pub returns-clause-weights : goal.returns-clause-weights
returns-clause-weights g c =
    let S = g.S.Space.meaning c.args.s.now in
    let ledger = c.args.ledger.now in
    let filled : c.fill.new.self ≡ ones S.points = search rules in
    c.replay_lines.ensures.weights
    ∙ ap (λ ws. replayed_weights S c.args.k ws ledger) filled
    ∙ sym (lines_weights S c.args.k 0 c.fill.new.self ledger ledger c.args.weights.now)
    ∙ ap (λ r. replay_weights r S c.args.k ledger c.args.weights.now) (sym c.replay_lines.ensures.answer)
