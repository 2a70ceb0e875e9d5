use Rattle.std.proofs.Common.{◌≡◌, length, sym, ap, ◌∙◌, ap₂, arith}
use Rattle.ranges.specs.Weights.{chosen, tabulated}
use Rattle.greedy.specs.Greedy.{greedy_net, greedy_points}
use Rattle.greedy.specs.Flags.{bit}
use Rattle.ranges.proofs.Marks.{marks_chosen}
use Rattle.greedy.proofs.greedy.mark_net.Goals as goal

pub returns : goal.returns
returns g c =
    let S = g.S.Space.meaning c.args.weights.now.space.now in
    let long : length c.cover_heavy-count.new.marks ≡ S.points = omega arith in
    let net : c.settle_marks.new.marks ≡ greedy_net S c.args.k c.args.weights.now.each.now =
    c.settle_marks.ensures ∙ ap₂ (λ P n. tabulated (λ p. bit (P p)) n) c.cover_heavy-count.ensures.points long in
    record {
      marks = net;
      count = c.cover_heavy-count.ensures.count ∙ sym (ap chosen net ∙ marks_chosen (greedy_points S c.args.k c.args.weights.now.each.now) S.points);
      flags = c.cover_heavy-count.ensures.flags;
    }
