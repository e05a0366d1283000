-- `scan_some` merges the candidates and the neighbours, a variable at a turn. Assumes nothing.
use Prim.Native.Nat.{◌-◌}
use Rattle.field.specs.Field.{lent}
use Rattle.run.specs.Cells.{cells}
use Rattle.scanning.proofs.Merged.{Merging}
use Rattle.scanning.proofs.merging.scan_some.Given as goal

abbrev pub invariant-loop-b : goal.invariant-loop-b
invariant-loop-b l = Merging (lent l.field) l.i l.many l.first l.last l.b l.h l.x l.y (cells l.initial.values l.f l.initial.u 0) (cells l.values l.f l.u l.tail)

abbrev pub decreases-loop-b : goal.decreases-loop-b
decreases-loop-b l = l.n - l.b
