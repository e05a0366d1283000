-- `find_leader` holds each member against the leader. Assumes nothing.
use mathlib.Core.Path.{refl}
use Rattle.anchors.proofs.Gathering.{leading_next, leading_done}
use Rattle.anchors.proofs.members.find_leader.Goals as goal

pub loop-p-preserved : goal.loop-p-preserved
loop-p-preserved c =
    leading_next c.loop-p.invariant c.loop-p-test.true refl
    c.weigh.ensures c.against-leader.ensures

pub returns : goal.returns
returns c = leading_done c.loop-p.invariant c.loop-p-test.false refl c.weigh-weight.ensures
