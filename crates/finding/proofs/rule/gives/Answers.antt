-- `gives` asks for the probed variable first, then for a free start value. Assumes nothing.
use borrow.Author.Tests.{eq-eqb, ne_eqb}
use Rattle.probe.specs.Call.{new_at}
use Rattle.finding.specs.Finds.{gives_at}
use Rattle.finding.proofs.rule.gives.Goals as goal

pub returns-then-i-j : goal.returns-then-i-j
unfolding gives_at
returns-then-i-j c = rw (eq-eqb _ _ c.if-i-j.true)

pub returns-then-start-eq2 : goal.returns-then-start-eq2
unfolding gives_at new_at
returns-then-start-eq2 c = rw (ne_eqb _ _ c.if-i-j.false, eq-eqb _ 2 c.if-start-eq2.true)

pub returns-else-start-eq2 : goal.returns-else-start-eq2
unfolding gives_at new_at
returns-else-start-eq2 c = rw (ne_eqb _ _ c.if-i-j.false, ne_eqb _ 2 c.if-start-eq2.false)
