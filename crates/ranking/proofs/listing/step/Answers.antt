-- `step` asks whether the value is 2. Assumes nothing.
use native.Mathlib.Omega.{arith}
use borrow.Author.Tests.{eq-eqb, ne_eqb}
use Rattle.ranking.specs.Listed.{step_of}
use Rattle.ranking.proofs.listing.step.Goals as goal

pub returns-then-value-eq2 : goal.returns-then-value-eq2
unfolding step_of
returns-then-value-eq2 c = record { value = rw (eq-eqb _ 2 c.if-value-eq2.true); upper_bound = omega arith }

pub returns-else-value-eq2 : goal.returns-else-value-eq2
unfolding step_of
returns-else-value-eq2 c = record { value = rw (ne_eqb _ 2 c.if-value-eq2.false); upper_bound = omega arith }
