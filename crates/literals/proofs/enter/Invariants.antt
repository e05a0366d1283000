-- `enter` enters one start value a turn. Assumes nothing.
use mathlib.Core.Path.{◌≡◌}
use Prim.Native.Nat.{◌≤◌}
use Rattle.literals.specs.Going.{Entering}
use lib.ListN.{length}
use Rattle.literals.proofs.enter.Given as goal

abbrev pub invariant-loop-i : goal.invariant-loop-i
invariant-loop-i l = Entering l.list l.start l.u l.tail l.i × ((l.i ≤ length l.start) × (length l.u ≡ length l.initial.u))
