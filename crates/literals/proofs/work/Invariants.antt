-- `work` serves the queue. Assumes nothing.
use lib.ListN.{length}
use mathlib.Core.Path.{◌≡◌}
use Rattle.literals.proofs.Serving.{Working}
use Prim.Native.Nat.{◌-◌}
use Rattle.literals.proofs.work.Given as goal

abbrev pub invariant-loop-head : goal.invariant-loop-head
invariant-loop-head l = Working l.list l.start l.u l.last l.head × (length l.u ≡ length l.initial.u)

abbrev pub decreases-loop-head : goal.decreases-loop-head
decreases-loop-head l = l.n - l.head
