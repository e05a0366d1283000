-- `add_at` adds to one mass. Assumes nothing.
use mathlib.Core.Path.{refl}
use Rattle.ranking.specs.Masses.{added}
use Rattle.ranking.proofs.masses.add_at.Goals as goal

pub returns : goal.returns
unfolding added
returns c = refl
