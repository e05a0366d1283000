-- `make_room` asks whether n places are left. Assumes nothing.
use borrow.Author.Tests.{le-leb, lt-leb}
use Rattle.walking.specs.Walk.{roomed}
use Rattle.walking.proofs.make_room.Goals as goal

pub returns-then-n-u : goal.returns-then-n-u
unfolding roomed
returns-then-n-u c = rw (le-leb _ _ c.if-n-u.true)

pub returns : goal.returns
unfolding roomed
returns c = rw (lt-leb _ _ c.if-n-u.false) c.flush.ensures
