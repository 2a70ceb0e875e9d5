-- The sweep marks a net for every ordered space.
use Rattle.std.specs.Prelude.{◌≡◌, ℕ, zero, suc, ◌+◌, ◌-◌, ◌*◌, ◌^◌, ◌<◌, ◌≤◌, Bool, true, false, List, length, nat_le, nat_lt, refl}
use Rattle.std.proofs.Common.{sym, ap, ◌∙◌, inl, inr, mul-le-mul_left, mul-le-mul_right, mul-add, add-one, arith}
use Rattle.std.proofs.lemmas.Bool.{cases_Bool, cases_lt, ltb-true, ltb-false, and_from, and_parts, and_cases, both_ways, le-leb, lt-ltb, le-ltb, leb-true, cond-true, cond-false}
use Rattle.ranges.specs.Below.{sum_below, count_below, any_below}
use Rattle.ranges.specs.Spaces.{RangeSpace, Ordered}
use Rattle.ranges.specs.Weights.{weight_at, total, share, outweighs, heavy, marked, chosen, hits_at, marks_of}
use Rattle.ranges.proofs.Sums.{sum_suc, sum_fewer, count_yes, count_no}
use Rattle.ranges.proofs.Searches.{any_absent}
use Rattle.ranges.proofs.Hits.{hit_gives}
use Rattle.ranges.proofs.Marks.{marks_long, marks_bits, marks_marked, marks_chosen}
use Rattle.nets.specs.Finders.{FinderSound}
use Rattle.nets.specs.Sweeps.{carry_on, carried, full, sweep_finder}

-- one point more
pub carried_more : (k : ℕ) (ws : List ℕ) (i : ℕ) → carried k ws (i + 1) ≡ carry_on k (total ws) (carried k ws i + weight_at ws i)
carried_more k ws i = rw add-one refl

fewer_times : (c m W : ℕ) → c * (W + 1) ≤ m * W → c ≤ m - 1
fewer_times c m W h =
    let left : c * (W + 1) ≡ c * W + c = omega (arith, mul-add c W 1) in
    elim (cases_lt c m) [ inl below ↦ omega arith | inr above ↦ (let times = mul-le-mul_right W above in omega arith) ]

module _ (k : ℕ) (ws : List ℕ) where
  -- where point i is marked the sum starts again
  marked_carry : (i : ℕ) → full k ws i ≡ true → carried k ws (suc i) ≡ 0
  marked_carry i e = cond-true (full k ws i) 0 _ e

  unmarked_carry : (i : ℕ) → full k ws i ≡ false → carried k ws (suc i) ≡ carried k ws i + weight_at ws i
  unmarked_carry i e = cond-false (full k ws i) 0 _ e

  -- the sum never exceeds what was added so far
  pub carried_le : (i : ℕ) → carried k ws i ≤ sum_below (weight_at ws) i
  carried_le zero = omega arith
  carried_le (suc i) =
      let before = carried_le i in
      elim (cases_Bool (full k ws i)) [
        | inl e ↦ omega (arith, marked_carry i e)
        | inr e ↦ omega (arith, unmarked_carry i e, sum_suc (weight_at ws) i)
      ]

  -- what is carried on is light
  carried_light : (i : ℕ) → 2 * k * carried k ws i ≤ total ws
  carried_light zero = omega arith
  carried_light (suc i) =
      elim (cases_Bool (full k ws i)) [
        | inl e ↦ rw (marked_carry i e) (omega arith)
        | inr e ↦ rw (unmarked_carry i e) (ltb-false _ _ e)
      ]

  -- each mark uses up more than W of 2·k times the weights so far
  used_up : (i : ℕ) → count_below (full k ws) i * (total ws + 1) + 2 * k * carried k ws i ≤ 2 * k * sum_below (weight_at ws) i
  used_up zero = omega arith
  used_up (suc i) =
      let before = used_up i in
      let more = ap (λ x. 2 * k * x) (sum_suc (weight_at ws) i) ∙ mul-add (2 * k) (sum_below (weight_at ws) i) (weight_at ws i) in
      let now = mul-add (2 * k) (carried k ws i) (weight_at ws i) in
      elim (cases_Bool (full k ws i)) [
        | inl e ↦ (
            let count = count_yes (full k ws) i e in
            let zero-carry = ap (λ x. 2 * k * x) (marked_carry i e) in
            let over = ltb-true (total ws) (2 * k * (carried k ws i + weight_at ws i)) e in
            let times = ap (λ x. x * (total ws + 1)) count in
            omega arith)
        | inr e ↦ (
            let count = count_no (full k ws) i e in
            let on = ap (λ x. 2 * k * x) (unmarked_carry i e) in
            let times = ap (λ x. x * (total ws + 1)) count in
            omega arith)
      ]

  -- so fewer than 2·k points are marked
  few_marked : count_below (full k ws) (length ws) ≤ 2 * k - 1
  few_marked = fewer_times (count_below (full k ws) (length ws)) (2 * k) (total ws) (omega (arith, used_up (length ws)))

-- an ordered space's range j, none of whose points is marked, is light
module _ (k : ℕ) (ws : List ℕ) (S : RangeSpace) (first end : ℕ → ℕ) (ordered : Ordered S first end) (j : ℕ) where
  -- up to point m: the range's weight is light, is carried while the range lasts, and is 0 before it
  record Swept (m : ℕ) : Type 0 where
    light : 2 * k * sum_below (share S ws j) m ≤ total ws
    kept : m < end j → sum_below (share S ws j) m ≤ carried k ws m
    none : m ≤ first j → sum_below (share S ws j) m ≡ 0

  held_at : (m : ℕ) → S.holds j m ≡ true → (first j ≤ m) × (m < end j)
  held_at m e =
      let both = and_parts (nat_le (first j) m) (nat_lt m (end j)) (sym (ordered.members j m) ∙ e) in
      (leb-true _ _ both.0, ltb-true _ _ both.1)

  not_held_at : (m : ℕ) → S.holds j m ≡ false → m < end j → m < first j
  not_held_at m e l =
      elim (cases_lt m (first j)) [
        | inl below ↦ below
        | inr from ↦ absurd (both_ways (S.holds j m) e (ordered.members j m ∙ and_from _ _ (le-leb _ _ from) (lt-ltb _ _ l)))
      ]

  swept : (m : ℕ) → ((p : ℕ) → p < m → S.holds j p ≡ true → full k ws p ≡ false) → Swept m
  swept zero unmarked = record { light = omega arith; kept = λ _. omega arith; none = λ _. refl }
  swept (suc m) unmarked =
      let before = swept m (λ p l. unmarked p (omega arith)) in
      let more = sum_suc (share S ws j) m in
      elim (cases_Bool (S.holds j m)) [
        | inl held ↦ (
            let within = held_at m held in
            let own : share S ws j m ≡ weight_at ws m = cond-true (S.holds j m) (weight_at ws m) 0 held in
            let on = unmarked_carry k ws m (unmarked m (omega arith) held) in
            let kept-now : sum_below (share S ws j) (suc m) ≤ carried k ws (suc m) = omega (arith, before.kept within.1) in
            let times = mul-le-mul_left (2 * k) kept-now in
            record {
              light = omega (arith, carried_light k ws (suc m), times);
              kept = λ _. kept-now;
              none = λ l. absurd (omega (arith, within.0));
            })
        | inr free ↦ (
            let nothing : share S ws j m ≡ 0 = cond-false (S.holds j m) (weight_at ws m) 0 free in
            let same : sum_below (share S ws j) (suc m) ≡ sum_below (share S ws j) m = omega arith in
            record {
              light = rw same before.light;
              kept = λ l. omega (arith, before.none (omega (arith, not_held_at m free (omega arith))));
              none = λ l. omega (arith, before.none (omega arith));
            })
      ]

-- what is not hit by the marks is not marked
unmarked_held : (S : RangeSpace) (k : ℕ) (ws ms : List ℕ) → ms ≡ marks_of (full k ws) S.points → (j p : ℕ) → p < S.points → hits_at S (marked ms) j p ≡ false → S.holds j p ≡ true → full k ws p ≡ false
unmarked_held S k ws ms is j p l free held =
    let known : marked ms p ≡ full k ws p = ap (λ x. marked x p) is ∙ marks_marked (full k ws) S.points p l in
    elim (and_cases (marked ms p) (S.holds j p) free) [
      | inl e ↦ sym known ∙ e
      | inr e ↦ absurd (both_ways (S.holds j p) e held)
    ]

pub sweep_sound : FinderSound sweep_finder
sweep_sound S k ws ms asked net =
    let t = full k ws in
    let n = S.points in
    let is : ms ≡ marks_of t n = net.0 ∙ ap (marks_of t) asked.long in
    let order = net.1 in
    record {
      long = ap length is ∙ marks_long t n;
      bits = λ p l. rw is (marks_bits t n p l);
      hits = λ j l heavy-j. elim (cases_Bool (any_below (hits_at S (marked ms) j) n)) [
        | inl e ↦ hit_gives S asked.within (marked ms) j e
        | inr e ↦ absurd (both_ways (heavy S k ws j)
            (le-ltb _ _ (swept k ws S order.0 order.1 order.2 j n (λ p l held. unmarked_held S k ws ms (is) j p l (any_absent (hits_at S (marked ms) j) n e p l) held)).light)
            heavy-j)
      ];
      few = rw (ap chosen is ∙ marks_chosen t n ∙ ap (count_below t) (sym asked.long)) (few_marked k ws);
    }

-- one turn of the sweep, where the sum is heavy and where it is not
module _ (k : ℕ) (ws : List ℕ) (i sum W w : ℕ) (before : sum ≡ carried k ws i) (whole : W ≡ total ws) (weight : w ≡ weight_at ws i) where
  is_full : (b : Bool) → b ≡ outweighs k (sum + w) W → b ≡ full k ws i
  is_full b e = e ∙ (λ d. outweighs k (before d + weight d) (whole d))

  pub turn_marked : outweighs k (sum + w) W ≡ true → (0 ≡ carried k ws (i + 1)) × (full k ws i ≡ true)
  turn_marked e =
      let at : full k ws i ≡ true = sym (is_full true (sym e)) in
      (sym (carried_more k ws i ∙ marked_carry k ws i at), at)

  pub turn_passed : outweighs k (sum + w) W ≡ false → (sum + w ≡ carried k ws (i + 1)) × (full k ws i ≡ false)
  turn_passed e =
      let at : full k ws i ≡ false = sym (is_full false (sym e)) in
      (ap (λ x. x + w) before ∙ ap (λ x. carried k ws i + x) weight ∙ sym (carried_more k ws i ∙ unmarked_carry k ws i at), at)

-- the sum with the next weight stays small
pub sum_fits : (k : ℕ) (ws : List ℕ) (i sum : ℕ) → sum ≡ carried k ws i → i < length ws → total ws ≤ 2 ^ 49 → sum + weight_at ws i < 2 ^ 64
sum_fits k ws i sum before l small =
    omega (arith, carried_le k ws i, sum_suc (weight_at ws) i, sum_fewer (weight_at ws) (suc i) (length ws) (omega arith))
