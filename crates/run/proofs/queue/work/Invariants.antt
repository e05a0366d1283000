-- `work` is the model's queue, a variable at a turn. Assumes nothing.
use Prim.Native.Nat.{◌-◌}
use lib.ListN.{length}
use Rattle.field.specs.Field.{lent}
use Rattle.run.specs.Cells.{cells}
use Rattle.run.proofs.Turns.{Working}
use Rattle.run.proofs.queue.work.Given as goal

abbrev pub invariant-loop-head : goal.invariant-loop-head
invariant-loop-head l = Working (lent l.field) l.head (cells l.initial.values l.initial.f l.initial.u l.tail) (cells l.values l.f l.u l.last)

abbrev pub decreases-loop-head : goal.decreases-loop-head
decreases-loop-head l = length l.field.c.now - l.head
