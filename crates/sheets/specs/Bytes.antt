-- Numbers as bytes, least significant first, and bytes laid into a buffer.
use Rattle.std.specs.Prelude.{ℕ, ◌+◌, ◌*◌, ◌/◌, ◌%◌, ◌<◌, List, [], ◌∷◌, ◌++◌, length, take, drop, slice_index, slice_set}
use Rattle.std.specs.List.{flat_map}

-- what every number of 16 bits is
abbrev pub Fit : ℕ → Type 0
Fit x = x < 65536

abbrev pub bytes16 : ℕ → List ℕ
bytes16 x = (x % 256) ∷ (x / 256 % 256) ∷ []

abbrev pub bytes32 : ℕ → List ℕ
bytes32 x = (x % 256) ∷ (x / 256 % 256) ∷ (x / 65536 % 256) ∷ (x / 16777216 % 256) ∷ []

abbrev pub get16 : List ℕ → ℕ → ℕ
get16 s at = slice_index s at + 256 * slice_index s (at + 1)

abbrev pub get32 : List ℕ → ℕ → ℕ
get32 s at = slice_index s at + 256 * slice_index s (at + 1) + 65536 * slice_index s (at + 2) + 16777216 * slice_index s (at + 3)

-- numbers of 16 bits, one after the other
abbrev pub numbers_bytes : List ℕ → List ℕ
numbers_bytes xs = flat_map bytes16 xs

-- s with the bytes bs in the place of those from `at` on; all others stay
abbrev pub put : List ℕ → ℕ → List ℕ → List ℕ
put s at bs = take at s ++ (bs ++ drop (at + length bs) s)

-- the same, byte by byte
abbrev pub stored : List ℕ → ℕ → List ℕ → List ℕ
stored s at [] = s
stored s at (b ∷ bs) = stored (slice_set s at b) (at + 1) bs
