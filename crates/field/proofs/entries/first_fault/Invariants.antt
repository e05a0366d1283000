-- `first_fault` looks at one entry a turn. Assumes nothing.
use lib.ListN.{length}
use Rattle.field.specs.Tests.{is_fine}
use Rattle.scratch.specs.All.{Passing}
use Rattle.field.proofs.entries.first_fault.Given as goal

abbrev pub invariant-loop-k : goal.invariant-loop-k
invariant-loop-k l = Passing (is_fine l.n l.rows l.cols) (length l.rows) l.k
