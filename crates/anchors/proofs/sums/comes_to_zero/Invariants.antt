-- `comes_to_zero` goes along the places of a variable. Assumes nothing.
use Rattle.field.specs.Field.{lent}
use Rattle.anchors.proofs.Summing.{Balancing}
use Rattle.anchors.proofs.sums.comes_to_zero.Given as goal

abbrev pub invariant-loop-p : goal.invariant-loop-p
invariant-loop-p l = Balancing (lent l.field) l.i l.start l.end l.u l.initial.f l.p l.f l.sum
