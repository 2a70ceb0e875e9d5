-- A replay, one line at a time, and what its acceptance means.
use Rattle.std.proofs.Common.{◌≡◌, ℕ, ◌+◌, ◌*◌, ◌^◌, ◌<◌, ◌≤◌, Bool, true, false, cond, ◌&&◌, List, [], ◌∷◌, length, get_or, drop, sym, refl, ap, ◌∙◌, subst, inl, inr, Ok, Err, Result, arith}
use Rattle.std.proofs.lemmas.List.FromFn.{length-map-range_with_len, get_or-map-range_with_len}
use Rattle.std.proofs.lemmas.List.{at_drop_more, length-map, same_lists}
use Rattle.std.proofs.lemmas.Bool.{cases_Bool, cond-true, cond-false, lt-ltb}
use Rattle.ranges.specs.declared.number.RangeNumber.{RangeNumber}
use Rattle.ranges.specs.Spaces.{RangeSpace, Within}
use Rattle.ranges.specs.Weights.{weight_at, total, capped, range_weight}
use Rattle.ranges.proofs.Sums.{sum_part}
use Rattle.guesses.specs.Limits.{limit_of}
use Rattle.guesses.proofs.Growth.{total_bound}
use Rattle.ledgers.specs.declared.replay.ReplayError.{ReplayError}
use Rattle.ledgers.specs.declared.replay.ReplayError.TheVariants.{BadLine}
use Rattle.ledgers.specs.Doublings.{doubled_at, doubled, capped_at, capped_doubled, doubled_point_at, doubled_points, capped_point_at, capped_points, good, AllGood, ones, NeedsMore, Grown}
use Rattle.ledgers.specs.Replays.{numbers, replayed, replayed_weights, replay_weights}
use Rattle.ledgers.proofs.Doublings.{total_doubled, good_light, grown_once}
use Rattle.ledgers.proofs.Certificates.{full_ledger}

-- below the largest number nothing is capped
uncapped_at : (b : Bool) (x : ℕ) → x ≤ 2 ^ 49 → cond b (capped (2 * x)) x ≡ cond b (2 * x) x
uncapped_at true x small = omega arith
uncapped_at false x small = refl

weight_small : (ws : List ℕ) (p : ℕ) → p < length ws → total ws ≤ 2 ^ 49 → weight_at ws p ≤ 2 ^ 49
weight_small ws p l small = omega (arith, sum_part (weight_at ws) (length ws) p l)

pub points_uncapped : (n : ℕ) (P : ℕ → Bool) (ws : List ℕ) → length ws ≡ n → total ws ≤ 2 ^ 49 → capped_points n P ws ≡ doubled_points P ws
points_uncapped n P ws long small =
    same_lists (capped_points n P ws) (doubled_points P ws)
    (length-map-range_with_len (capped_point_at n P ws) 0 (length ws) ∙ sym (length-map-range_with_len (doubled_point_at P ws) 0 (length ws)))
    (λ p d l.
    let inside : p < length ws = omega (arith, length-map-range_with_len (capped_point_at n P ws) 0 (length ws)) in
    let below : p < n = omega arith in
    get_or-map-range_with_len (capped_point_at n P ws) 0 (length ws) p p d inside (omega arith)
    ∙ ap (λ b. cond (b && P p) (capped (2 * weight_at ws p)) (weight_at ws p)) (lt-ltb p n below)
    ∙ uncapped_at (P p) (weight_at ws p) (weight_small ws p inside small)
    ∙ sym (get_or-map-range_with_len (doubled_point_at P ws) 0 (length ws) p p d inside (omega arith)))

-- so of a range's points
pub uncapped : (S : RangeSpace) (j : ℕ) (ws : List ℕ) → total ws ≤ 2 ^ 49 → capped_doubled S j ws ≡ doubled S j ws
uncapped S j ws small =
    same_lists (capped_doubled S j ws) (doubled S j ws)
    (length-map-range_with_len (capped_at S j ws) 0 (length ws) ∙ sym (length-map-range_with_len (doubled_at S j ws) 0 (length ws)))
    (λ p d l.
    let inside : p < length ws = omega (arith, length-map-range_with_len (capped_at S j ws) 0 (length ws)) in
    get_or-map-range_with_len (capped_at S j ws) 0 (length ws) p p d inside (omega arith)
    ∙ uncapped_at (S.holds j p) (weight_at ws p) (weight_small ws p inside small)
    ∙ sym (get_or-map-range_with_len (doubled_at S j ws) 0 (length ws) p p d inside (omega arith)))

-- a total that has grown as light ranges let it is small
pub grown_small : (S : RangeSpace) (k i lines : ℕ) (ws : List ℕ) → Within S → 0 < k → k ≤ S.points → lines ≤ limit_of S.points k → i ≤ lines → Grown S.points k i (total ws) → total ws ≤ 2 ^ 49
grown_small S k i lines ws within some few most l grown =
    total_bound S.points k i (total ws) some few within.few_points (omega arith) grown

-- the line at place i; d is what is read past the end
module _ (S : RangeSpace) (k i : ℕ) (ws : List ℕ) (ledger : List RangeNumber) (d : RangeNumber) (inside : i < length ledger) where
  pub line_bad : good S k ws (get_or ledger i d).0 ≡ false → (replayed S k i ws (drop i ledger) ≡ Err (BadLine i)) × (replayed_weights S k ws (drop i ledger) ≡ ws)
  line_bad e = (
    at_drop_more (replayed S k i ws) ledger i d inside ∙ cond-false _ _ _ e,
    at_drop_more (replayed_weights S k ws) ledger i d inside ∙ cond-false _ _ _ e,
  )

  pub line_good : good S k ws (get_or ledger i d).0 ≡ true
      → (replayed S k i ws (drop i ledger) ≡ replayed S k (i + 1) (doubled S (get_or ledger i d).0 ws) (drop (i + 1) ledger))
      × (replayed_weights S k ws (drop i ledger) ≡ replayed_weights S k (doubled S (get_or ledger i d).0 ws) (drop (i + 1) ledger))
  line_good e = (
    at_drop_more (replayed S k i ws) ledger i d inside ∙ cond-true _ _ _ e,
    at_drop_more (replayed_weights S k ws) ledger i d inside ∙ cond-true _ _ _ e,
  )

-- a good line lets the total grow as it may
pub line_grown : (S : RangeSpace) (k i : ℕ) (ws : List ℕ) (j : ℕ) → length ws ≡ S.points → good S k ws j ≡ true → Grown S.points k i (total ws) → Grown S.points k (i + 1) (total (doubled S j ws))
line_grown S k i ws j long e before =
    subst (Grown S.points k (i + 1)) (sym (total_doubled S j ws long)) (grown_once S.points k i (total ws) (range_weight S ws j) (good_light S k ws j e).1 before)

pub bad_not_accepted : (i : ℕ) → ◌≡◌ {A = Result Unit ReplayError} (Err (BadLine i)) (Ok tt) → ⊥
bad_not_accepted i e = let z : ◌≡◌ {A = ℕ} 0 1 = cc in omega arith

-- no line is refused, so the weights are those before the first that is not good
pub lines_weights : (S : RangeSpace) (k i : ℕ) (ws : List ℕ) (js ledger : List RangeNumber) (before : List ℕ) → replay_weights (replayed S k i ws js) S k ledger before ≡ replayed_weights S k (ones S.points) ledger
lines_weights S k i ws [] ledger before = refl
lines_weights S k i ws (j ∷ js) ledger before =
    elim (cases_Bool (good S k ws j.0)) [
      | inl is ↦ ap (λ r. replay_weights r S k ledger before) (cond-true _ _ _ is) ∙ lines_weights S k (i + 1) (doubled S j.0 ws) js ledger before
      | inr is ↦ ap (λ r. replay_weights r S k ledger before) (cond-false _ _ _ is)
    ]

-- an accepted ledger has only good lines, and a ledger of good lines is accepted
pub accepted_good : (S : RangeSpace) (k i : ℕ) (ws : List ℕ) (ledger : List RangeNumber) → replayed S k i ws ledger ≡ Ok tt → AllGood S k ws (numbers ledger)
accepted_good S k i ws [] e = tt
accepted_good S k i ws (j ∷ js) e =
    elim (cases_Bool (good S k ws j.0)) [
      | inl is ↦ (is, accepted_good S k (i + 1) (doubled S j.0 ws) js (sym (cond-true _ _ _ is) ∙ e))
      | inr is ↦ absurd (bad_not_accepted i (sym (cond-false _ _ _ is) ∙ e))
    ]

pub good_accepted : (S : RangeSpace) (k i : ℕ) (ws : List ℕ) (ledger : List RangeNumber) → AllGood S k ws (numbers ledger) → replayed S k i ws ledger ≡ Ok tt
good_accepted S k i ws [] all = refl
good_accepted S k i ws (j ∷ js) all = cond-true _ _ _ all.0 ∙ good_accepted S k (i + 1) (doubled S j.0 ws) js all.1

-- what acceptance proves
pub accepted_more : (S : RangeSpace) (k : ℕ) (ledger : List RangeNumber) → Within S → 0 < k → k ≤ S.points → length ledger ≡ limit_of S.points k → replayed S k 0 (ones S.points) ledger ≡ Ok tt → NeedsMore S k
accepted_more S k ledger within some few full e =
    full_ledger S k (numbers ledger) within some few (length-map ledger (λ j. j.0) ∙ full) (accepted_good S k 0 (ones S.points) ledger e)
