-- `push_neighbours` is the model's fold over the places of a variable. Assumes nothing.
use Rattle.field.specs.Field.{lent}
use Rattle.parts.specs.Cells.{cells}
use Rattle.parts.proofs.Turns.{Serving}
use Rattle.parts.proofs.steps.push_neighbours.Given as goal

abbrev pub invariant-loop-p : goal.invariant-loop-p
invariant-loop-p l = Serving (lent l.field) l.zeros l.i l.end l.p (cells l.initial.u l.top) (cells l.u l.last)
