-- `serve` goes along the chain of the variable. Assumes nothing.
use Rattle.literals.proofs.Serving.{Serving}
use Rattle.literals.proofs.steps.serve.Given as goal

abbrev pub invariant-loop-p : goal.invariant-loop-p
invariant-loop-p l = Serving l.list l.start l.initial.u l.tail l.i l.u l.last l.p

abbrev pub decreases-loop-p : goal.decreases-loop-p
decreases-loop-p l = l.p
