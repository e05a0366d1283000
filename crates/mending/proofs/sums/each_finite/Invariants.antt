-- `each_finite` tests one entry a turn. Assumes nothing.
use lib.ListN.{length}
use Rattle.scratch.specs.All.{Passing}
use Rattle.field.specs.Field.{lent}
use Rattle.mending.specs.Sums.{finite_at}
use Rattle.mending.proofs.sums.each_finite.Given as goal

abbrev pub invariant-loop-k : goal.invariant-loop-k
invariant-loop-k l = Passing (finite_at (lent l.field)) (length l.field.q.now) l.k
