-- `may_probe` makes the three parts of test 7 in turn. Assumes nothing.
use mathlib.Core.Path.{refl, ◌∙◌}
use borrow.Author.Tests.{lt-ltb, le-ltb, eq-eqb, ne_eqb}
use Rattle.scratch.proofs.All.{and_yes, and_no}
use Rattle.probe.specs.Call.{may_probe}
use Rattle.probe.proofs.testing.may_probe.Goals as goal

pub returns-then-variable-n : goal.returns-then-variable-n
unfolding may_probe
returns-then-variable-n c = and_no _ (le-ltb _ _ c.if-variable-n.true)

pub returns-then-start-variable-eq2 : goal.returns-then-start-variable-eq2
unfolding may_probe
returns-then-start-variable-eq2 c =
    and_yes (lt-ltb _ _ c.if-variable-n.false) (and_yes (eq-eqb _ _ c.if-start-variable-eq2.true) refl)

pub returns-else-start-variable-eq2 : goal.returns-else-start-variable-eq2
unfolding may_probe
returns-else-start-variable-eq2 c =
    ne_eqb _ _ c.if-start-variable-eq2.false ∙ and_yes (lt-ltb _ _ c.if-variable-n.false) (and_no _ (ne_eqb _ _ c.if-start-variable-eq2.false))
