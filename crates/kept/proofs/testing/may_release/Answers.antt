-- `may_release` makes the two parts of test 7. Assumes nothing.
use mathlib.Core.Path.{refl, ◌∙◌}
use borrow.Author.Tests.{lt-ltb, le-ltb}
use Rattle.scratch.proofs.All.{and_yes, and_no}
use Rattle.kept.specs.Calls.{may_release}
use Rattle.kept.proofs.testing.may_release.Goals as goal

pub returns-then-variable-n : goal.returns-then-variable-n
unfolding may_release
returns-then-variable-n c = and_yes (lt-ltb _ _ c.if-variable-n.true) refl

pub returns-else-variable-n : goal.returns-else-variable-n
unfolding may_release
returns-else-variable-n c = le-ltb _ _ c.if-variable-n.false ∙ and_no _ (le-ltb _ _ c.if-variable-n.false)
