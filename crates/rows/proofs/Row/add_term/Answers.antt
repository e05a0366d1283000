-- `add_term` goes by the byte. Assumes nothing.
use borrow.Author.Tests.{eq-eqb, ne_eqb}
use Rattle.rows.specs.Row.{add_term}
use Rattle.rows.proofs.Row.add_term.Goals as goal

pub returns-then-value-eq2 : goal.returns-then-value-eq2
unfolding add_term
returns-then-value-eq2 c = simp (eq-eqb _ _ c.if-value-eq2.true) c.add_free.ensures

pub returns-else-value-eq2 : goal.returns-else-value-eq2
unfolding add_term
returns-else-value-eq2 c = simp (ne_eqb _ _ c.if-value-eq2.false) c.add_fixed.ensures
