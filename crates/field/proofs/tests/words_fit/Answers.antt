-- `words_fit` is one comparison. Assumes nothing.
use mathlib.Core.Path.{refl}
use Rattle.field.specs.Tests.{words_fit}
use Rattle.field.proofs.tests.words_fit.Goals as goal

pub returns : goal.returns
unfolding words_fit
returns c = refl
