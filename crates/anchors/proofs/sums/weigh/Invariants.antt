-- `weigh` goes along the places of a variable. Assumes nothing.
use Rattle.field.specs.Field.{lent}
use Rattle.anchors.proofs.Summing.{Weighing}
use Rattle.anchors.proofs.sums.weigh.Given as goal

abbrev pub invariant-loop-p : goal.invariant-loop-p
invariant-loop-p l = Weighing (lent l.field) l.i l.end l.u l.p l.weight
