-- `serve_until` is the model's `until`, a variable at a turn. Assumes nothing.
use Prim.Native.Nat.{◌-◌}
use lib.ListN.{length}
use Rattle.field.specs.Field.{lent}
use Rattle.run.specs.Cells.{cells}
use Rattle.reason.proofs.Halting.{Halting}
use Rattle.reason.proofs.halt.serve_until.Given as goal

abbrev pub invariant-loop-head : goal.invariant-loop-head
invariant-loop-head l = Halting (lent l.field) l.i l.head (cells l.initial.values l.initial.f l.initial.u l.tail) (cells l.values l.f l.u l.last)

abbrev pub decreases-loop-head : goal.decreases-loop-head
decreases-loop-head l = length l.field.c.now - l.head
