-- `find_leader` holds each member against the leader. Assumes nothing.
use Rattle.field.specs.Field.{lent}
use Rattle.anchors.proofs.Gathering.{Leading}
use Rattle.anchors.proofs.members.find_leader.Given as goal

abbrev pub invariant-loop-p : goal.invariant-loop-p
invariant-loop-p l = Leading (lent l.field) l.count l.u l.initial.leader l.p l.leader
