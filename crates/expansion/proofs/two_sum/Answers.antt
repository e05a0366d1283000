-- `two_sum` puts the larger in magnitude first. Assumes nothing.
use Rattle.expansion.proofs.Carrying.{split_turned, split_straight}
use Rattle.expansion.proofs.two_sum.Goals as goal

pub returns-then-magnitude : goal.returns-then-magnitude
returns-then-magnitude c = split_turned _ _ c.magnitude.ensures c.magnitude-2.ensures c.if-magnitude.true

pub returns : goal.returns
returns c = split_straight _ _ c.magnitude.ensures c.magnitude-2.ensures c.if-magnitude.false
