-- `visit` passes over what is not open, and marks and pushes an open variable. Assumes nothing.
use Rattle.parts.proofs.Moves.{visit_seen, visit_open}
use Rattle.parts.proofs.steps.visit.Goals as goal

pub returns-then-u-base-ne2 : goal.returns-then-u-base-ne2
returns-then-u-base-ne2 c = visit_seen c.requires.placed c.requires.j_bound c.if-u-base-ne2.true

pub returns : goal.returns
returns c = visit_open c.requires.placed c.requires.j_bound c.if-u-base-ne2.false
