-- `pop_all` is the model's walk, a pop at a turn. Assumes nothing.
use Prim.Native.Nat.{◌-◌}
use lib.ListN.{length}
use Rattle.field.specs.Field.{lent}
use Rattle.parts.specs.Cells.{cells}
use Rattle.parts.proofs.Turns.{Popping}
use Rattle.parts.proofs.steps.pop_all.Given as goal

abbrev pub invariant-loop-last : goal.invariant-loop-last
invariant-loop-last l = Popping (lent l.field) l.zeros (cells l.initial.u l.top) l.u l.last l.count

abbrev pub decreases-loop-last : goal.decreases-loop-last
decreases-loop-last l = length l.field.c.now - l.count
