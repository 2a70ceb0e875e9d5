use Rattle.std.proofs.Common.{◌≡◌, ℕ, replicate, rules, ◌+◌, ◌-◌, sym, ap, ◌∙◌, subst, arith}
use Rattle.nets.specs.Finders.{Asked}
use Rattle.greedy.proofs.Kept.{Kept, kept_start, kept_step, gain_fits, gain_some, one_more, kept_points, kept_count, kept_flags}
use Rattle.greedy.proofs.greedy.cover_heavy.Goals as goal

pub loop-unhit-init : goal.loop-unhit-init
loop-unhit-init g c =
    rw c.space-s.ensures (kept_start _ _ _ _ _ _ c.flag_heavy-unhit.ensures.flags c.flag_heavy-unhit.ensures.count (search rules ∙ ap (λ n. replicate n 254) c.requires.long))

pub overflow_sub-unhit : goal.overflow_sub-unhit
overflow_sub-unhit g c =
    omega (arith, c.mark_best-unhit.ensures.count, gain_fits _ _ _ _ _ _ _ (rw c.space-s.ensures c.requires.asked) c.loop-unhit.invariant)

pub overflow_add-count : goal.overflow_add-count
overflow_add-count g c =
    let asked : Asked (g.S.Space.meaning c.space-s.result.now) c.args.k c.args.weights.now.each.now = rw c.space-s.ensures c.requires.asked in
    omega (arith, asked.within.few_points, one_more _ _ _ _ _ _ _ asked c.loop-unhit.invariant (omega arith))

pub loop-unhit-smaller : goal.loop-unhit-smaller
loop-unhit-smaller g c =
    omega (arith, c.mark_best-unhit.ensures.count, gain_some _ _ _ _ _ _ _ (rw c.space-s.ensures c.requires.asked) c.loop-unhit.invariant (omega arith))

pub loop-unhit-preserved : goal.loop-unhit-preserved
loop-unhit-preserved g c =
    subst (λ (x : ℕ). Kept (g.S.Space.meaning c.space-s.result.now) c.args.k c.args.weights.now.each.now c.mark_best-unhit.new.flags c.mark_best-unhit.new.marks (c.loop-unhit.unhit - x) (c.loop-unhit.count + 1))
    (sym c.mark_best-unhit.ensures.count)
    (kept_step _ _ _ _ _ _ _ (rw c.space-s.ensures c.requires.asked) c.loop-unhit.invariant (omega arith) _ _ c.mark_best-unhit.ensures.flags c.mark_best-unhit.ensures.taken c.mark_best-unhit.ensures.known)

pub returns : goal.returns
returns g c =
    let none : c.loop-unhit.unhit ≡ 0 = omega arith in
    let asked : Asked (g.S.Space.meaning c.space-s.result.now) c.args.k c.args.weights.now.each.now = rw c.space-s.ensures c.requires.asked in
    rw (← c.space-s.ensures) (record {
      flags = kept_flags _ _ _ _ _ _ _ asked c.loop-unhit.invariant none;
      points = kept_points _ _ _ _ _ _ _ asked c.loop-unhit.invariant none;
      count = kept_count _ _ _ _ _ _ _ asked c.loop-unhit.invariant none;
    })
