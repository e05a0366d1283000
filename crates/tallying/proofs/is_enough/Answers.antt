-- `is_enough` compares what is left with the longest field. Assumes nothing.
use Rattle.tallying.specs.Taking.{is_enough}
use Rattle.tallying.proofs.is_enough.Goals as goal

pub returns-then-last : goal.returns-then-last
unfolding is_enough
returns-then-last c = rw c.if-last.true

pub returns-else-last : goal.returns-else-last
unfolding is_enough
returns-else-last c = rw c.if-last.false
