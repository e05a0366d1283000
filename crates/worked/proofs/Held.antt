-- Every case of the list is one that a caller can lend, by computation. Assumes nothing.
use mathlib.Core.Path.{◌≡◌, refl}
use mathlib.Core.Bool.{true}
use lib.Ieee.{fits, of_bits}
use Rattle.worked.specs.Cases.{cases}
use Rattle.worked.specs.Held.{every, held}

-- Theorem. Every case of the list is one that a caller can lend, by computation.
pub all_held : every held cases ≡ true
unfolding every held fits of_bits
all_held = refl
