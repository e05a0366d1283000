-- `move_terms` is the model's fold over the places of a variable. Assumes nothing.
use Rattle.field.specs.Field.{lent}
use Rattle.run.specs.Cells.{cells}
use Rattle.probing.proofs.Moving.{Moves}
use Rattle.probing.proofs.refreshing.move_terms.Given as goal

abbrev pub invariant-loop-p : goal.invariant-loop-p
invariant-loop-p l = Moves (lent l.field) l.i l.v l.end l.p (cells l.values l.initial.f l.u 0) (cells l.values l.f l.u 0)
