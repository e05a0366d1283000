-- `refresh` makes the rows of a variable's free neighbours afresh, each once, which is the model's fold over its places. Assumes nothing.
use Rattle.field.specs.Field.{lent}
use Rattle.probing.proofs.Refreshed.{Refreshing}
use Rattle.probing.proofs.refreshing.refresh.Given as goal

abbrev pub invariant-loop-p : goal.invariant-loop-p
invariant-loop-p l = Refreshing (lent l.field) l.i l.end l.p l.x l.values l.u l.initial.f l.f
