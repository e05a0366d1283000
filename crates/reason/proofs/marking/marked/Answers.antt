-- `marked` is the model's mark. Assumes nothing.
use Rattle.reason.proofs.MarkTurns.{marked_free, marked_fixed}
use Rattle.reason.proofs.marking.marked.Goals as goal

pub returns-then-v-eq2 : goal.returns-then-v-eq2
returns-then-v-eq2 c = marked_free c.if-v-eq2.true

pub returns-else-v-eq2 : goal.returns-else-v-eq2
returns-else-v-eq2 c = marked_fixed c.if-v-eq2.false
