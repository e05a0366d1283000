-- `end_after` asks whether n places are left. Assumes nothing.
use borrow.Author.Tests.{le-leb, lt-leb}
use Rattle.walking.specs.Walk.{end_after}
use Rattle.walking.proofs.end_after.Goals as goal

pub returns-then-n-long : goal.returns-then-n-long
unfolding end_after
returns-then-n-long c = rw (le-leb _ _ c.if-n-long.true)

pub returns : goal.returns
unfolding end_after
returns c = rw (lt-leb _ _ c.if-n-long.false)
