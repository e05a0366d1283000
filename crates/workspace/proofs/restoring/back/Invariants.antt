-- `back` is the fold over the places of a variable. Assumes nothing.
use Rattle.workspace.proofs.Backed.{Backing}
use Rattle.workspace.proofs.restoring.back.Given as goal

abbrev pub invariant-loop-p : goal.invariant-loop-p
invariant-loop-p l = Backing l.n l.rows l.cols l.u l.x l.end l.p l.initial.f l.f
