-- `weight_of` halves the part in which the key may stand. Assumes nothing.
use mathlib.Core.Path.{refl}
use native.Mathlib.Omega.{arith}
use Rattle.margins.proofs.Search.{search_hit}
use Rattle.margins.proofs.walking.weight_of.Goals as goal

pub returns-then-key-k : goal.returns-then-key-k
returns-then-key-k c =
    search_hit c.loop-low.invariant c.requires.rises (omega arith) (omega arith) refl _ c.if-key-k.true refl
