-- `is_last` reads the last place. Assumes nothing.
use mathlib.Core.Path.{refl}
use native.Mathlib.Omega.{arith}
use Rattle.mending.proofs.Passes.{none_last, last_word}
use Rattle.mending.proofs.gathering.is_last.Goals as goal

pub returns-then-o-eq0 : goal.returns-then-o-eq0
returns-then-o-eq0 c = none_last _ _ _ _ c.if-o-eq0.true

pub returns : goal.returns
returns c = last_word _ _ _ _ (omega arith) c.requires refl
