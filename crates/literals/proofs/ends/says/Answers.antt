-- `says` reads the set and asks it. Assumes nothing.
use Rattle.literals.specs.Ends.{set_at, says}
use Rattle.literals.proofs.ends.says.Goals as goal

pub returns : goal.returns
unfolding set_at says
returns c = c.gives.ensures
