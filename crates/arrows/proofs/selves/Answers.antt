-- `selves` marks one bit a turn. Assumes nothing.
use Rattle.arrows.proofs.Marks.{selving_start, selving_turn}
use Rattle.arrows.proofs.selves.Goals as goal

pub loop-a-init : goal.loop-a-init
loop-a-init c = selving_start _ _

pub loop-a-preserved : goal.loop-a-preserved
loop-a-preserved c = selving_turn c.loop-a-test.true c.loop-a.invariant c.mark.ensures
