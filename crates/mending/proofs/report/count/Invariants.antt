-- `count` counts one entry a turn. Assumes nothing.
use Prim.Native.Nat.{◌-◌, ◌≤◌}
use mathlib.Core.Path.{◌≡◌}
use Rattle.mending.specs.Report.{count_to}
use Rattle.mending.proofs.report.count.Given as goal

abbrev pub invariant-loop-k : goal.invariant-loop-k
invariant-loop-k l = (l.k ≤ l.m) × ((l.changes ≡ count_to l.m l.u l.k) × (l.changes ≤ l.k))

abbrev pub decreases-loop-k : goal.decreases-loop-k
decreases-loop-k l = l.m - l.k
