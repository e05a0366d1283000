-- `plain_sum` goes along the places of a variable. Assumes nothing.
use Rattle.field.specs.Field.{lent}
use Rattle.anchors.proofs.Summing.{Adding}
use Rattle.anchors.proofs.sums.plain_sum.Given as goal

abbrev pub invariant-loop-p : goal.invariant-loop-p
invariant-loop-p l = Adding (lent l.field) l.i l.end l.u l.p l.sum
