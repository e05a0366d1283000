-- When a weight is found as it was. Assumes nothing.
use Rattle.std.specs.Prelude.{Bool, false, cond, eqb, Float}
use Rattle.std.specs.Float.{binary64}
use Rattle.std.specs.Float.Ieee.{ne, to_bits}

-- each element is as it was before the call: the same bits, and all NaN are one
unfoldable pub same_weight : Float → Float → Bool
same_weight x y = cond (ne x x) (ne y y) (cond (ne y y) false (eqb (to_bits binary64 x) (to_bits binary64 y)))
