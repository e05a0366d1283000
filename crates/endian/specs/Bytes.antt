-- Little-endian numbers among bytes, and the floats that they are the patterns of. Assumes nothing.
use Rattle.std.specs.Prelude.{ℕ, zero, suc, ◌+◌, ◌*◌, ◌/◌, ◌%◌, List, [], ◌∷◌, take, drop, Float}
use Rattle.std.specs.Float.{binary64}
use Rattle.std.specs.Float.Ieee.{of_bits}

-- The number that bytes are, the lowest byte first.
unfoldable pub value_of : List ℕ → ℕ
value_of [] = 0
value_of (b ∷ bs) = b + 256 * value_of bs

-- the number in the k bytes from index at
unfoldable pub number_at : ℕ → List ℕ → ℕ → ℕ
number_at k s at = value_of (take k (drop at s))

-- any 8 bytes are a weight; every NaN pattern is `nan`
unfoldable pub float_at : List ℕ → ℕ → Float
float_at s at = of_bits binary64 (number_at 8 s at)

-- The k bytes of a number, the lowest byte first; what does not fit them is left out.
unfoldable pub bytes_of : ℕ → ℕ → List ℕ
bytes_of zero n = []
bytes_of (suc k) n = n % 256 ∷ bytes_of k (n / 256)
