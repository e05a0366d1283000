-- `weights_finite` tests the linear weights, then the entries'. Assumes nothing.
use mathlib.Core.Path.{sym, ◌∙◌}
use Rattle.scratch.proofs.All.{and_yes, and_no}
use Rattle.field.specs.Tests.{weights_finite}
use Rattle.field.proofs.tests.weights_finite.Goals as goal

pub returns-then-not-all_finite : goal.returns-then-not-all_finite
unfolding weights_finite
returns-then-not-all_finite c = and_no _ (sym c.all_finite.ensures ∙ c.if-not-all_finite.true)

pub returns : goal.returns
unfolding weights_finite
returns c = and_yes (sym c.all_finite.ensures ∙ c.if-not-all_finite.false) c.all_finite-2.ensures
