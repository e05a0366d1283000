-- `add_each` goes through the masks of a block, rising. Assumes nothing.
use Rattle.masks.proofs.Summing.{turn_next}
use Rattle.masks.proofs.add_each.Goals as goal

pub loop-l-preserved : goal.loop-l-preserved
loop-l-preserved c = turn_next c.loop-l.invariant c.loop-l-test.true c.plus.ensures
