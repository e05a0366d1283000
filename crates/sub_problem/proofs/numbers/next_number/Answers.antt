-- `next_number` counts a free variable. Assumes nothing.
use Rattle.sub_problem.proofs.NumberLoops.{where_free, where_given}
use Rattle.sub_problem.proofs.numbers.next_number.Goals as goal

pub returns-then-start-i-eq2 : goal.returns-then-start-i-eq2
returns-then-start-i-eq2 c = where_free c.args.start.now c.args.i _ _ c.if-start-i-eq2.true

pub returns : goal.returns
returns c = where_given c.args.start.now c.args.i _ _ c.if-start-i-eq2.false
