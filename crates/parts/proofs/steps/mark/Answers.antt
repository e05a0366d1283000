-- `mark` copies a mark at a turn. Assumes nothing.
use Rattle.parts.proofs.Marks.{mark_turn}
use Rattle.parts.proofs.steps.mark.Goals as goal

pub loop-i-preserved : goal.loop-i-preserved
loop-i-preserved c = mark_turn c.loop-i.invariant c.loop-i-test.true c.mark_of.ensures
