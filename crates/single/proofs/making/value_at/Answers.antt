-- `value_at` tells the variable that is set from the others. Assumes nothing.
use Rattle.single.proofs.Set.{set_here, set_elsewhere}
use Rattle.single.proofs.making.value_at.Goals as goal

pub returns-then-j-i : goal.returns-then-j-i
returns-then-j-i c = let a = c.args in set_here a.start.now a.i a.v a.j c.requires c.if-j-i.true

pub returns-else-j-i : goal.returns-else-j-i
returns-else-j-i c = let a = c.args in set_elsewhere a.start.now a.i a.v a.j c.if-j-i.false
