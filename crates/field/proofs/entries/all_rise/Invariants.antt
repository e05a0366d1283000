-- `all_rise` tests one entry against the next a turn. Assumes nothing.
use Prim.Native.Nat.{◌-◌}
use lib.ListN.{length}
use Rattle.field.specs.Tests.{rises_at}
use Rattle.scratch.specs.All.{Testing}
use Rattle.field.proofs.entries.all_rise.Given as goal

abbrev pub invariant-loop-k : goal.invariant-loop-k
invariant-loop-k l = Testing (rises_at l.rows l.cols) (length l.rows - 1) (l.k - 1) l.rise
