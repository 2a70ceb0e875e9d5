-- One line more at the end of a ledger.
use Rattle.std.proofs.Common.{◌≡◌, ℕ, true, List, [], ◌∷◌, ◌++◌, refl}
use Rattle.ranges.specs.Spaces.{RangeSpace}
use Rattle.ledgers.specs.Doublings.{doubled, doubled_by, good, AllGood}

pub doubled_by_push : (S : RangeSpace) (ws js : List ℕ) (j : ℕ) → doubled_by S ws (js ++ j ∷ []) ≡ doubled S j (doubled_by S ws js)
doubled_by_push S ws [] j = refl
doubled_by_push S ws (i ∷ js) j = doubled_by_push S (doubled S i ws) js j

pub good_push : (S : RangeSpace) (k : ℕ) (ws js : List ℕ) (j : ℕ) → AllGood S k ws js → good S k (doubled_by S ws js) j ≡ true → AllGood S k ws (js ++ j ∷ [])
good_push S k ws [] j all last = (last, tt)
good_push S k ws (i ∷ js) j all last = (all.0, good_push S k (doubled S i ws) js j all.1 last)
