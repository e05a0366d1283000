-- `add_given` adds c times the value of a given variable. Assumes nothing.
use Rattle.sub_problem.proofs.NumberLoops.{where_free, where_given}
use Rattle.sub_problem.proofs.gathering.add_given.Goals as goal

pub returns-then-v-eq2 : goal.returns-then-v-eq2
returns-then-v-eq2 c = where_free c.args.start.now c.args.i _ _ c.if-v-eq2.true

pub returns : goal.returns
returns c = where_given c.args.start.now c.args.i _ _ c.if-v-eq2.false
