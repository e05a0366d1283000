-- `new_at` tests whether the start value is free. Assumes nothing.
use borrow.Author.Tests.{eq-eqb, ne_eqb}
use Rattle.probe.specs.Call.{new_at}
use Rattle.probe.proofs.values.new_at.Goals as goal

pub returns-then-start-eq2 : goal.returns-then-start-eq2
unfolding new_at
returns-then-start-eq2 c = rw (eq-eqb _ 2 c.if-start-eq2.true)

pub returns-else-start-eq2 : goal.returns-else-start-eq2
unfolding new_at
returns-else-start-eq2 c = rw (ne_eqb _ 2 c.if-start-eq2.false)
