-- `remove_term` goes by the byte. Assumes nothing.
use borrow.Author.Tests.{eq-eqb, ne_eqb}
use Rattle.rows.specs.Row.{remove_term}
use Rattle.rows.proofs.Row.remove_term.Goals as goal

pub returns-then-value-eq2 : goal.returns-then-value-eq2
unfolding remove_term
returns-then-value-eq2 c = simp (eq-eqb _ _ c.if-value-eq2.true) c.remove_free.ensures

pub returns-else-value-eq2 : goal.returns-else-value-eq2
unfolding remove_term
returns-else-value-eq2 c = simp (ne_eqb _ _ c.if-value-eq2.false) c.remove_fixed.ensures
