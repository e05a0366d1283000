-- `mark` marks both ends of one entry a turn. Assumes nothing.
use Rattle.no_effect.proofs.Marking.{Marks}
use Rattle.no_effect.proofs.marks.mark.Given as goal

abbrev pub invariant-loop-k : goal.invariant-loop-k
invariant-loop-k l = Marks l.n l.rows l.cols l.k l.initial.u l.u
