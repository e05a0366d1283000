-- `counted` is one more at a mark. Assumes nothing.
use Rattle.reason.proofs.MarkTurns.{counted_none, counted_one}
use Rattle.reason.proofs.marking.counted.Goals as goal

pub returns-then-v-ne3 : goal.returns-then-v-ne3
returns-then-v-ne3 c = counted_none c.if-v-ne3.true

pub returns : goal.returns
returns c = counted_one _ c.if-v-ne3.false
