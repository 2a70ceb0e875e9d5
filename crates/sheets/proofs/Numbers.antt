-- Numbers read back from where they were stored.
use Rattle.std.proofs.Common.{◌≡◌, ℕ, zero, suc, ◌+◌, ◌*◌, ◌/◌, ◌%◌, ◌<◌, List, [], ◌∷◌, ◌++◌, length, get_or, sym, ap, ◌∙◌, mul-suc, arith}
use Rattle.std.specs.List.{flat_map}
use Rattle.std.proofs.lemmas.List.{get_or-append-add, get_or_append_left}
use Rattle.std.proofs.lemmas.Nat.{shr-shr, mod-pow-add, div-add-mod'}
use Rattle.std.proofs.lemmas.List.FromFn.{fill_by_all}
use Rattle.ranges.specs.Weights.{tabulated}
use Rattle.sheets.specs.Bytes.{Fit, get16, get32}

pub back16 : (x : ℕ) → Fit x → x % 256 + 256 * (x / 256 % 256) ≡ x
back16 x h = omega arith

from_halves : (x a b c d low high : ℕ) → low ≡ b * 256 + a → high ≡ c + 256 * d → high * 65536 + low ≡ x → a + 256 * b + 65536 * c + 16777216 * d ≡ x
from_halves x a b c d low high e f g = omega arith

pub back32 : (x : ℕ) → x < 4294967296 → x % 256 + 256 * (x / 256 % 256) + 65536 * (x / 65536 % 256) + 16777216 * (x / 16777216 % 256) ≡ x
back32 x h =
    let high = sym (back16 (x / 65536) (omega arith)) ∙ ap (λ y. x / 65536 % 256 + 256 * (y % 256)) (shr-shr x 16 8) in
    from_halves x _ _ _ _ (x % 65536) (x / 65536) (mod-pow-add x 8 8) high (div-add-mod' x 65536)

-- a byte behind a front of known length
pub behind : (X Y : List ℕ) (i j : ℕ) → i ≡ length X + j → get_or (X ++ Y) i 0 ≡ get_or Y j 0
behind X Y i j e = rw e (get_or-append-add X Y j 0)

pub behind16 : (X Y : List ℕ) (i j : ℕ) → i ≡ length X + j → get16 (X ++ Y) i ≡ get16 Y j
behind16 X Y i j e =
    let a = behind X Y i j e in
    let b = behind X Y (i + 1) (j + 1) (omega arith) in
    cc

pub behind32 : (X Y : List ℕ) (i j : ℕ) → i ≡ length X + j → get32 (X ++ Y) i ≡ get32 Y j
behind32 X Y i j e =
    let a = behind X Y i j e in
    let b = behind X Y (i + 1) (j + 1) (omega arith) in
    let c = behind X Y (i + 2) (j + 2) (omega arith) in
    let d = behind X Y (i + 3) (j + 3) (omega arith) in
    cc

front16 : (X Y : List ℕ) (i : ℕ) → i + 1 < length X → get16 (X ++ Y) i ≡ get16 X i
front16 X Y i h =
    let a = get_or_append_left X Y 0 i (omega arith) in
    let b = get_or_append_left X Y 0 (i + 1) h in
    cc

-- of pieces of w bytes each, what stands at j in the piece of number i
pub joined16 : {X : Type 0} (f : X → List ℕ) (w : ℕ) → ((x : X) → length (f x) ≡ w) → (d : X) (xs : List X) (i j : ℕ) → i < length xs → j + 1 < w → get16 (flat_map f xs) (w * i + j) ≡ get16 (f (get_or xs i d)) j
joined16 f w each d [] i j h l = absurd (omega arith)
joined16 f w each d (x ∷ xs) zero j h l =
    let e : w * 0 + j ≡ j = omega arith in
    rw e (front16 (f x) (flat_map f xs) j (omega (arith, each x)))
joined16 f w each d (x ∷ xs) (suc i) j h l =
    behind16 (f x) (flat_map f xs) (w * suc i + j) (w * i + j) (omega (arith, each x, mul-suc w i))
    ∙ joined16 f w each d xs i j (omega arith) l

-- a list from its elements
pub tabulated_back : {X : Type 0} (f : ℕ → X) (xs : List X) (n : ℕ) (d : X) → n ≡ length xs → ((i : ℕ) → i < length xs → f i ≡ get_or xs i d) → tabulated f n ≡ xs
tabulated_back f xs n d e h = sym (fill_by_all f xs n d (sym e) (λ k l. sym (h k (omega arith))))
