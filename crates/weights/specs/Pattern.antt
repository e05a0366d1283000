-- A weight without its sign, as the whole number that its bits write, and what the grade reads from it. Assumes nothing.
use Rattle.std.specs.Prelude.{ℕ, ◌+◌, ◌-◌, ◌*◌, ◌/◌, ◌%◌, cond, eqb, Float}
use Rattle.std.specs.Int.Count.{count_trailing_zeros}
use Rattle.std.specs.Float.{nan, inf, fin, binary64}
use Rattle.std.specs.Float.Ieee.{to_bits}

-- 2 ^ 52: above it in a bit pattern stands the exponent's field, below it the digits
abbrev pub lead : ℕ
lead = 4503599627370496

-- the bits of |x| for a finite x, and else those of an infinity
unfoldable pub pattern : Float → ℕ
pattern nan = 9218868437227405312
pattern (inf s) = 9218868437227405312
pattern (fin s m e) = to_bits binary64 (fin s m e) % 9223372036854775808

-- what is added at a zero, which is whole in every unit
unfoldable pub at_zero : ℕ → ℕ
at_zero b = cond (eqb b 0) 4096 0

-- the weight with the pattern b is whole in the units below this number, among those from 64 to 4,095
unfoldable pub beyond : ℕ → ℕ
beyond b = b / lead + count_trailing_zeros 64 (b % lead + lead) + at_zero b

-- the pattern of 2 ^ 31 units u
abbrev pub limit_of : ℕ → ℕ
limit_of u = (u - 20) * lead
