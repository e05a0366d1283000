-- `serve` is the model's fold over the places of a variable. Assumes nothing.
use Rattle.field.specs.Field.{lent}
use Rattle.run.specs.Cells.{cells}
use Rattle.run.proofs.Turns.{Serving}
use Rattle.run.proofs.queue.serve.Given as goal

abbrev pub invariant-loop-p : goal.invariant-loop-p
invariant-loop-p l = Serving (lent l.field) l.i l.v l.end l.p (cells l.initial.values l.initial.f l.initial.u l.tail) (cells l.values l.f l.u l.last)
