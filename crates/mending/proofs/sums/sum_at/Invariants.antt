-- `sum_at` takes one entry a turn. Assumes nothing.
use Prim.Native.Nat.{◌≤◌}
use mathlib.Core.Path.{◌≡◌}
use lib.ListN.{length}
use Rattle.field.specs.Field.{lent}
use Rattle.mending.proofs.Tested.{part_to}
use Rattle.mending.proofs.sums.sum_at.Given as goal

abbrev pub invariant-loop-k : goal.invariant-loop-k
invariant-loop-k l = (l.k ≤ length l.field.q.now) × (l.part ≡ part_to (lent l.field) l.p l.k)
