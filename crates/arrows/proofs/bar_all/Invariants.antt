-- `bar_all` goes over the records. Assumes nothing.
use Rattle.arrows.specs.Marks.{Marking}
use Rattle.arrows.proofs.bar_all.Given as goal

abbrev pub invariant-loop-record : goal.invariant-loop-record
invariant-loop-record l = Marking l.list l.initial.w l.record-index l.w
