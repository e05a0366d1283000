-- `put` writes the change of one entry a turn. Assumes nothing.
use Prim.Native.Nat.{◌-◌}
use Rattle.mending.proofs.Told.{Telling}
use Rattle.mending.proofs.report.put.Given as goal

abbrev pub invariant-loop-k : goal.invariant-loop-k
invariant-loop-k l = Telling l.m l.u l.initial.report l.report l.k l.at

abbrev pub decreases-loop-k : goal.decreases-loop-k
decreases-loop-k l = l.m - l.k
