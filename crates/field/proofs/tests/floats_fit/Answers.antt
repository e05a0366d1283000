-- `floats_fit` is one comparison. Assumes nothing.
use mathlib.Core.Path.{refl}
use Rattle.field.specs.Tests.{floats_fit}
use Rattle.field.proofs.tests.floats_fit.Goals as goal

pub returns : goal.returns
unfolding floats_fit
returns c = refl
