-- What a finder promises: its bound, its need, and which nets it may mark.
use Rattle.std.specs.Prelude.{◌≡◌, ℕ, ◌^◌, ◌<◌, ◌≤◌, true, not, ◌||◌, ◌⊎◌, List, ◌++◌, length, drop, replicate, Ok, Err, Result, ◌==◌, nat_lt, slice_index}
use Rattle.ranges.specs.declared.refusal.Refusal.{Refusal}
use Rattle.ranges.specs.declared.refusal.Refusal.TheVariants.{WrongLength, GuessOutOfRange, ShortScratch, WrongTotal}
use Rattle.ranges.specs.Refusals.{unless}
use Rattle.ranges.specs.Spaces.{RangeSpace, Within}
use Rattle.ranges.specs.Weights.{total, heavy, marked, chosen, Hits}

-- what holds of every call that is accepted
pub record Asked (S : RangeSpace) (k : ℕ) (ws : List ℕ) : Type 0 where
  pub within : Within S
  pub long : length ws ≡ S.points
  pub some : 0 < k
  pub few : k ≤ S.points
  pub small : total ws ≤ 2 ^ 49

-- a net: a mark for each point, 0 or 1, which hits every heavy range by at most `bound` points
pub record Net (S : RangeSpace) (k : ℕ) (ws : List ℕ) (bound : ℕ) (ms : List ℕ) : Type 0 where
  pub long : length ms ≡ S.points
  pub bits : (p : ℕ) → p < S.points → (slice_index ms p ≡ 0) ⊎ (slice_index ms p ≡ 1)
  pub hits : (j : ℕ) → j < S.ranges → heavy S k ws j ≡ true → Hits S (marked ms) j
  pub few : chosen ms ≤ bound

-- a finder's meaning: its bound for n, M and k, its need of scratch for n and M,
-- and the marks that may come of a guess and weights
pub record FinderMeaning : Type 1 where
  pub bound : ℕ → ℕ → ℕ → ℕ
  pub need : ℕ → ℕ → ℕ
  pub nets : RangeSpace → ℕ → List ℕ → List ℕ → Type 0

-- whatever it may mark is a net within its bound
abbrev pub FinderSound : FinderMeaning → Type 0
FinderSound F =
    (S : RangeSpace) (k : ℕ) (ws ms : List ℕ) → Asked S k ws → F.nets S k ws ms
    → Net S k ws (F.bound S.points S.ranges k) ms

-- the checks of a finder, in number order
abbrev pub find_check : RangeSpace → ℕ → List ℕ → ℕ → ℕ → ℕ → Result Unit Refusal
find_check S k ws marks scratch need =
    unless (not (length ws == S.points) || not (marks == S.points)) WrongLength
    (unless (k == 0 || nat_lt S.points k) GuessOutOfRange
    (unless (nat_lt scratch need) ShortScratch
    (unless (nat_lt (2 ^ 49) (total ws)) WrongTotal (Ok tt))))

-- the marks after a call: accepted, a net of the finder's and their number; refused, as they were
abbrev pub FoundMarks : FinderMeaning → RangeSpace → ℕ → List ℕ → Result ℕ Refusal → List ℕ → List ℕ → Type 0
FoundMarks F S k ws (Ok count) before after = F.nets S k ws after × (count ≡ chosen after)
FoundMarks F S k ws (Err e) before after = after ≡ before

-- the scratch after a call: accepted, 0 in as many bytes as the need; refused, as it was
abbrev pub found_scratch : Result ℕ Refusal → ℕ → List ℕ → List ℕ
found_scratch (Ok count) need scratch = replicate need 0 ++ drop need scratch
found_scratch (Err e) need scratch = scratch
