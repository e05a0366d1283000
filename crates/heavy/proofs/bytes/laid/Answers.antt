-- `laid` takes 0 and 1, and passes over the rest. Assumes nothing.
use Rattle.heavy.specs.Rounds.{laid_at}
use Rattle.heavy.proofs.Counted.{laid_other}
use Rattle.heavy.proofs.bytes.laid.Goals as goal

pub returns-then-w-eq0 : goal.returns-then-w-eq0
unfolding laid_at
returns-then-w-eq0 c = rw c.if-w-eq0.true

pub returns-then-w-eq1 : goal.returns-then-w-eq1
unfolding laid_at
returns-then-w-eq1 c = rw c.if-w-eq1.true

pub returns : goal.returns
returns c = laid_other _ _ c.if-w-eq0.false c.if-w-eq1.false
