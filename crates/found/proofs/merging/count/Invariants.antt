-- `count` takes a block and a number a turn, until none is left. Assumes nothing.
use lib.ListN.{length}
use Rattle.found.proofs.Loops.{Counting}
use Rattle.found.proofs.merging.count.Given as goal

abbrev pub invariant-loop-at : goal.invariant-loop-at
invariant-loop-at l = Counting l.held 0 (length l.keys) l.list l.keys l.items l.at l.n
