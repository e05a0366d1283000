-- What a binary64 is worth: a whole number, as a ledger, counted in the unit u, which is 2 ^ (u - 1074). Beside it the float literals as the logic has them,
-- and what a float is without its sign. Assumes nothing.
use Rattle.std.specs.Prelude.{Bool, false, not, ℕ, ◌≤◌, Float}
use Rattle.std.specs.Float.{nan, inf, fin, binary64}
use Rattle.std.specs.Float.Ieee.{of_bits}
use Rattle.whole.specs.Whole.{Whole}
use Rattle.weights.specs.Counts.{Counts, Within, plus, minus}

-- x is a, in the unit u, one in which 2 ^ 53 does not overflow
pub record Worth (u : ℕ) (x : Float) (a : Whole) : Type 0 where
  pub unit : u ≤ 2044
  pub is : Counts binary64 u x a.plus a.less

-- a is at most 2 ^ 53 either way
abbrev pub Small : Whole → Type 0
Small a = Within binary64 a.plus a.less

-- how many units x is, where it is a whole number of them
abbrev pub read : ℕ → Float → Whole
read u x = record { plus = plus binary64 u x; less = minus binary64 u x }

-- x with its sign cleared
unfoldable pub magnitude : Float → Float
magnitude nan = nan
magnitude (inf s) = inf false
magnitude (fin s m e) = fin false m e

-- x is a number, with its sign clear
abbrev pub clear : Float → Bool
clear nan = false
clear (inf s) = not s
clear (fin s m e) = not s

-- The float 0.0, with which lent float scratch is cleared and sums begin.
abbrev pub zero64 : Float
zero64 = of_bits binary64 0

-- The float 0.5, by which q is multiplied to be a coefficient of a row.
abbrev pub half64 : Float
half64 = of_bits binary64 0x3fe0_0000_0000_0000

-- The float 2.0, by which q of a diagonal entry is multiplied in a balance.
abbrev pub two64 : Float
two64 = of_bits binary64 0x4000_0000_0000_0000

-- The float 4.0, by which c of a variable is multiplied in its balance.
abbrev pub four64 : Float
four64 = of_bits binary64 0x4010_0000_0000_0000
