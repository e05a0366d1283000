-- `mark` marks the other ends, a place at a turn. Assumes nothing.
use Rattle.reason.proofs.MarkTurns.{Marking}
use Rattle.reason.proofs.marking.mark.Given as goal

abbrev pub invariant-loop-p : goal.invariant-loop-p
invariant-loop-p l = Marking l.rows l.cols l.u l.initial.values l.i l.end l.p l.values
