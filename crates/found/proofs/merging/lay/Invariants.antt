-- `lay` moves the block above the last number up, and puts the number in front of it. Assumes nothing.
use lib.ListN.{length}
use Rattle.found.proofs.Loops.{Laying}
use Rattle.found.proofs.merging.lay.Given as goal

abbrev pub invariant-loop-at : goal.invariant-loop-at
invariant-loop-at l = Laying l.held 0 (length l.keys) l.keys l.initial.list l.items l.at l.n l.list
