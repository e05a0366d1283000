-- `first` looks at one variable a turn. Assumes nothing.
use lib.ListN.{length}
use Rattle.scratch.specs.All.{Passing}
use Rattle.run.specs.First.{passes}
use Rattle.run.proofs.queue.first.Given as goal

abbrev pub invariant-loop-i : goal.invariant-loop-i
invariant-loop-i l = Passing (passes l.values l.f) (length l.values) l.i
