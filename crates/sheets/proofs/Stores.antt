-- Bytes stored one by one, and numbers of 16 bits stored one after the other.
use Rattle.std.proofs.Common.{◌≡◌, ℕ, ◌+◌, ◌*◌, ◌≤◌, List, [], ◌∷◌, ◌++◌, length, take, ◌-◌, set, sym, refl, ap, ◌∙◌, mul-suc, add-one, arith, length-append}
use borrow.Rule.Slice.PartMut.{put_mid, Post-is}
use lib.Seq.{sets, sets-eq}
use Rattle.std.proofs.lemmas.Grind.{flat_map-append}
use Rattle.std.specs.List.{flat_map}
use Rattle.std.proofs.lemmas.List.{append_assoc}
use Rattle.sheets.specs.Bytes.{bytes16, numbers_bytes, put, stored}

stored_sets : (bs s : List ℕ) (at : ℕ) → stored s at bs ≡ sets s at bs
stored_sets [] s at = refl
stored_sets (b ∷ bs) s at = ap (λ i. stored (set s at b) i bs) (add-one at) ∙ stored_sets bs (set s at b) _

-- stores one by one put the bytes in the place of others
pub stored_put : (bs s : List ℕ) (at : ℕ) → at + length bs ≤ length s → stored s at bs ≡ put s at bs
stored_put bs s at h = stored_sets bs s at ∙ sets-eq bs s at h ∙ append_assoc _ bs _

-- and so do stores at once
pub stored_mid : (bs cs s : List ℕ) (at : ℕ) → cs ≡ bs → at + length bs ≤ length s → put_mid at (at + length bs - at) s cs ≡ stored s at bs
stored_mid bs cs s at e h =
    ap (put_mid at (at + length bs - at) s) e
    ∙ ap (λ rest. take at s ++ (bs ++ rest)) (Post-is at (at + length bs) s (omega arith))
    ∙ sym (stored_put bs s at h)

pub stored_append : (bs cs s : List ℕ) (at : ℕ) → stored s at (bs ++ cs) ≡ stored (stored s at bs) (at + length bs) cs
stored_append [] cs s at = ap (λ i. stored s i cs) (omega arith)
stored_append (b ∷ bs) cs s at =
    stored_append bs cs (set s at b) (at + 1)
    ∙ ap (λ i. stored (stored (set s at b) (at + 1) bs) i cs) (omega arith)

-- pieces of w bytes each, one after the other
pub length_joined : {X : Type 0} (f : X → List ℕ) (w : ℕ) → ((x : X) → length (f x) ≡ w) → (xs : List X) → length (flat_map f xs) ≡ w * length xs
length_joined f w each [] = omega arith
length_joined f w each (x ∷ xs) =
    omega (arith, length-append (f x) (flat_map f xs), each x, length_joined f w each xs, mul-suc w (length xs))

-- numbers, and behind them more
pub numbers_more : (xs ys s : List ℕ) (at : ℕ) → stored s at (numbers_bytes (xs ++ ys)) ≡ stored (stored s at (numbers_bytes xs)) (at + 2 * length xs) (numbers_bytes ys)
numbers_more xs ys s at =
    ap (stored s at) (flat_map-append bytes16 xs ys)
    ∙ stored_append (numbers_bytes xs) (numbers_bytes ys) s at
    ∙ ap (λ n. stored (stored s at (numbers_bytes xs)) (at + n) (numbers_bytes ys)) (length_joined bytes16 2 (λ x. refl) xs)
