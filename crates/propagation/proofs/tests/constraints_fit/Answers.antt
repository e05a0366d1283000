-- `constraints_fit` tests the length, then every record. Assumes nothing.
use Rattle.propagation.specs.Tests.{constraints_fit}
use Rattle.scratch.proofs.All.{and_yes, and_no}
use borrow.Author.Tests.{le-leb, lt-leb, eq-eqb, ne_eqb}
use Rattle.propagation.proofs.tests.constraints_fit.Goals as goal

pub returns-then-list-gt196608 : goal.returns-then-list-gt196608
unfolding constraints_fit
returns-then-list-gt196608 c = and_no _ (lt-leb _ _ c.if-list-gt196608.true)

pub returns-then-list-ne0 : goal.returns-then-list-ne0
unfolding constraints_fit
returns-then-list-ne0 c = and_yes (le-leb _ _ c.if-list-gt196608.false) (and_no _ (ne_eqb _ _ c.if-list-ne0.true))

pub returns : goal.returns
unfolding constraints_fit
returns c = and_yes (le-leb _ _ c.if-list-gt196608.false) (and_yes (eq-eqb _ _ c.if-list-ne0.false) c.all_fit.ensures)
