-- `explain` reads the verdict's bound, by its cases. Assumes nothing.
use mathlib.Core.Logic.{⊎_elim}
use Rattle.reason.proofs.Explained.{lower_is, upper_is, flat_is, open_is}
use Rattle.reason.proofs.explain.Goals as goal

pub returns-in-Zero : goal.returns-in-Zero
returns-in-Zero c = lower_is _ c.in-Zero.is c.in_half_units.ensures

pub returns-in-One : goal.returns-in-One
returns-in-One c = upper_is _ c.in-One.is c.in_half_units-in-One.ensures

pub returns-in-Flat : goal.returns-in-Flat
returns-in-Flat c = ⊎_elim (λ e. flat_is _ e) (λ e. open_is _ e) c.in-Flat.is
