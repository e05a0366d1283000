-- `few_variables` is one comparison. Assumes nothing.
use mathlib.Core.Path.{refl}
use Rattle.field.specs.Tests.{few_variables}
use Rattle.field.proofs.tests.few_variables.Goals as goal

pub returns : goal.returns
unfolding few_variables
returns c = refl
