-- `keep` passes over a 0. Assumes nothing.
use Rattle.expansion.proofs.Carrying.{keep_some, keep_none}
use Rattle.expansion.proofs.keep.Goals as goal

pub returns-then-x : goal.returns-then-x
returns-then-x c = keep_some c.requires c.if-x.true

pub returns : goal.returns
returns c = keep_none c.if-x.false
