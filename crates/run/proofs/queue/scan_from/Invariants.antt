-- `scan_from` is the model's scan, a variable at a turn; it begins behind those that it would pass over. Assumes nothing.
use Rattle.field.specs.Field.{lent}
use Rattle.run.specs.Cells.{cells}
use Rattle.run.proofs.Turns.{Scanning}
use Rattle.run.proofs.queue.scan_from.Given as goal

abbrev pub invariant-loop-i : goal.invariant-loop-i
invariant-loop-i l = Scanning (lent l.field) l.i (cells l.initial.values l.f l.initial.u 0) (cells l.values l.f l.u l.tail)
