-- `plus` adds total by total. Assumes nothing.
use mathlib.Core.Path.{refl}
use Rattle.tally.specs.Tally.{plus}
use Rattle.tally.proofs.plus.Goals as goal

pub returns : goal.returns
unfolding plus
returns c = refl
