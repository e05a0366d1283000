-- `off_diagonal` tests one entry a turn. Assumes nothing.
use mathlib.Core.Bool.{not}
use lib.Dec.{eqb}
use lib.ListN.{length, get_or}
use Rattle.scratch.specs.All.{Testing}
use Rattle.field.proofs.entries.off_diagonal.Given as goal

abbrev pub invariant-loop-k : goal.invariant-loop-k
invariant-loop-k l = Testing (λ j. not (eqb (get_or l.rows j 0) (get_or l.cols j 0))) (length l.rows) l.k l.off
