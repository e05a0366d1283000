-- `count` goes over the variables. Assumes nothing.
use lib.ListN.{length}
use Rattle.tally.proofs.Counts.{CountedTo}
use Rattle.tally.proofs.counting.count.Given as goal

abbrev pub invariant-loop-first : goal.invariant-loop-first
invariant-loop-first l = CountedTo l.start l.values l.given l.zero l.one l.free (length l.yielded)
