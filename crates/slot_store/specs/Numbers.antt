-- Numbers among bytes, the lowest byte first (C11 6.2.6.1).
use Rattle.std.specs.Prelude.{ℕ, zero, suc, ◌+◌, ◌*◌, ◌<◌, List, slice_index}

-- no byte is above 255
abbrev pub AreBytes : List ℕ → Type 0
AreBytes bytes = (k : ℕ) → slice_index bytes k < 256

-- the number that so many bytes hold, from a place on
unfoldable pub number_at : List ℕ → ℕ → ℕ → ℕ
number_at bytes at zero = 0
number_at bytes at (suc width) = slice_index bytes at + 256 * number_at bytes (suc at) width
