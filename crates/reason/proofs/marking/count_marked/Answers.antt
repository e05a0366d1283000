-- `count_marked` counts the marks, a variable at a turn. Assumes nothing.
use Rattle.reason.proofs.MarkTurns.{count_start, count_turn, count_done}
use Rattle.reason.proofs.marking.count_marked.Goals as goal

pub loop-v-init : goal.loop-v-init
loop-v-init c = count_start

pub loop-v-preserved : goal.loop-v-preserved
loop-v-preserved c = count_turn c.loop-v.invariant c.loop-v-test.true c.counted-count.ensures

pub returns : goal.returns
returns c = count_done c.loop-v.invariant c.loop-v-test.false
