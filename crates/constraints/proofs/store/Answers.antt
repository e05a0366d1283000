-- `store` writes three elements. Assumes nothing.
use mathlib.Core.Path.{refl}
use Rattle.constraints.specs.Record.{stored}
use Rattle.constraints.proofs.store.Goals as goal

pub returns : goal.returns
unfolding stored
returns c = refl
