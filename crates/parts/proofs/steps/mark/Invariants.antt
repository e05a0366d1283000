-- `mark` copies a mark at a turn. Assumes nothing.
use Rattle.parts.proofs.Marks.{Marking}
use Rattle.parts.proofs.steps.mark.Given as goal

abbrev pub invariant-loop-i : goal.invariant-loop-i
invariant-loop-i l = Marking l.base l.all l.values l.initial.u l.u l.i
