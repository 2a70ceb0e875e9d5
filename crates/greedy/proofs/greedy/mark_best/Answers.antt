use Rattle.std.proofs.Common.{ℕ, ◌<◌, List, length, set, sym, ap, ◌∙◌, subst, ap₂, arith}
use Rattle.ranges.specs.Weights.{tabulated}
use Rattle.greedy.specs.Greedy.{adding}
use Rattle.greedy.specs.Flags.{flag_gain, lowered, Known}
use Rattle.greedy.specs.Best.{best_below_lem}
use Rattle.greedy.proofs.Bytes.{taken_adding, known_marked}
use Rattle.greedy.proofs.greedy.mark_best.Goals as goal

pub bounds-marks-p : goal.bounds-marks-p
bounds-marks-p g c =
    omega (arith, best_below_lem (flag_gain (g.S.Space.meaning c.args.s.now) c.args.flags.now) (g.S.Space.meaning c.args.s.now).points c.requires.some)

pub returns : goal.returns
returns g c =
    let S = g.S.Space.meaning c.args.s.now in
    let fs = c.args.flags.now in
    let ms = c.lower_flags-hits.new.marks in
    let q = c.best_point-p.result.0 in
    let at = c.best_point-p.ensures.point in
    let down = c.lower_flags-hits.ensures.flags in
    let l : q < length ms = omega (arith, best_below_lem (flag_gain S fs) S.points c.requires.some) in
    record {
      flags = down ∙ ap (λ p. tabulated (lowered S p fs) S.ranges) at;
      taken = taken_adding ms q l ∙ ap₂ adding (c.lower_flags-hits.ensures.taken ∙ c.best_point-p.ensures.taken) at;
      known = subst (λ (xs : List ℕ). Known S xs (set ms q 255)) (sym down) (known_marked S q fs ms l (subst (λ (xs : List ℕ). Known S xs ms) down c.lower_flags-hits.ensures.known));
      count = c.lower_flags-hits.ensures.count ∙ ap (flag_gain S fs) at;
    }
