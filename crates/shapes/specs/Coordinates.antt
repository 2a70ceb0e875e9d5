-- Coordinates: whole numbers of 0.01 mm from −1,000,000 to 1,000,000.
use Rattle.std.specs.Prelude.{Bool, ◌&&◌, ◌||◌, ℤ, pos, negsuc, int_le, int_lt}

abbrev pub beyond_limits : ℤ → Bool
beyond_limits x = int_lt x (negsuc 999999) || int_lt (pos 1000000) x

-- low ≤ x ≤ high
abbrev pub between : ℤ → ℤ → ℤ → Bool
between low x high = int_le low x && int_le x high
