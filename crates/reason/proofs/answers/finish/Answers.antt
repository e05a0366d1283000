-- `finish` answers by the ground, by its cases. Assumes nothing.
use mathlib.Core.Logic.{⊎_elim}
use Rattle.reason.proofs.Calls.{finish_given, finish_lower, finish_upper}
use Rattle.reason.proofs.answers.finish.Goals as goal

pub fit-requires : goal.fit-requires
fit-requires c = c.requires

pub returns-in-Given : goal.returns-in-Given
returns-in-Given c = finish_given _ _ c.in-Given.is

pub returns-in-Lower : goal.returns-in-Lower
returns-in-Lower c = ⊎_elim (λ h. finish_lower _ _ _ h.1 c.fit.ensures) (λ h. finish_upper _ _ _ h.1 c.fit.ensures) c.in-Lower.is
