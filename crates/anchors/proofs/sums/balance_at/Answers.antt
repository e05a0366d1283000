-- `balance_at` adds 2q on the diagonal, and q off it unless it is 0. Assumes nothing.
use Rattle.anchors.proofs.Summing.{adds_twice, adds_once, adds_none}
use Rattle.anchors.proofs.sums.balance_at.Goals as goal

pub returns-then-field-k : goal.returns-then-field-k
returns-then-field-k c = adds_twice _ _ c.if-field-k.true c.add.ensures

pub returns-then-entry : goal.returns-then-entry
returns-then-entry c = adds_once _ _ c.if-field-k.false c.if-entry.true c.add-then-entry.ensures

pub returns-else-entry : goal.returns-else-entry
returns-else-entry c = adds_none _ _ c.if-field-k.false c.if-entry.false
