-- `take_back` frees the queue from head on, a variable at a turn. Assumes nothing.
use Rattle.reason.proofs.Halting.{Backing}
use Rattle.reason.proofs.halt.take_back.Given as goal

abbrev pub invariant-loop-p : goal.invariant-loop-p
invariant-loop-p l = Backing l.initial.values l.u l.base l.last l.head l.p l.values
