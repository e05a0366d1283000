-- `stored_row` goes by the byte. Assumes nothing.
use borrow.Author.Tests.{eq-eqb, ne_eqb}
use Rattle.kept.specs.Kept.{stored_row}
use Rattle.kept.proofs.storing.stored_row.Goals as goal

pub returns-then-value-eq2 : goal.returns-then-value-eq2
unfolding stored_row
returns-then-value-eq2 c = simp (eq-eqb _ _ c.if-value-eq2.true) c.plain.ensures

pub returns-else-value-eq2 : goal.returns-else-value-eq2
unfolding stored_row
returns-else-value-eq2 c = simp (ne_eqb _ _ c.if-value-eq2.false) c.start.ensures
