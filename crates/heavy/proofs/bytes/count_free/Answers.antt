-- `count_free` looks at one value a turn. Assumes nothing.
use Rattle.heavy.proofs.Counted.{counting_start, counting_turn, counting_done}
use Rattle.heavy.proofs.bytes.count_free.Goals as goal

pub loop-value-init : goal.loop-value-init
loop-value-init c = counting_start _

pub loop-value-preserved : goal.loop-value-preserved
loop-value-preserved c = counting_turn c.loop-value.invariant c.loop-value-test.true c.step-count.ensures.value

pub returns : goal.returns
returns c = counting_done c.loop-value.invariant c.loop-value-test.false
