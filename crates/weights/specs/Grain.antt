-- The largest unit of which a float is a whole number. Assumes nothing.
use Rattle.std.specs.Prelude.{ℕ, zero, suc, ◌+◌, ◌-◌, ℤ, pos, negsuc, Float}
use Rattle.std.specs.Float.{nan, inf, fin, Format}
use Rattle.std.specs.Float.Ieee.{low}

-- e counted from the format's smallest exponent, for an e that is not below it
abbrev pub place : Format → ℤ → ℕ
place f (pos k) = low f + k
place f (negsuc k) = low f - suc k

-- x is a whole number of the units 0 up to grain f x and of no larger one: for a zero, of every unit up to 4,096
unfoldable pub grain : Format → Float → ℕ
grain f nan = 0
grain f (inf s) = 0
grain f (fin s zero e) = 4096
grain f (fin s (suc m) e) = place f e
