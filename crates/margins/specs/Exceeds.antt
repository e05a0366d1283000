-- A whole number of units against a float. Assumes nothing.
use Rattle.std.specs.Prelude.{ℕ, ◌+◌, ◌*◌, ◌^◌, ◌<◌, Float}
use Rattle.std.specs.Float.Ieee.Positive.{num, den}
use Rattle.whole.specs.Whole.{Whole}

-- z units of 2^(u - 1074) are more than the float t, which is finite and above 0: t is the fraction num t / den t
abbrev pub Exceeds : ℕ → Float → Whole → Type 0
Exceeds u t z = num t * 2 ^ 1074 + z.less * (2 ^ u * den t) < z.plus * (2 ^ u * den t)
