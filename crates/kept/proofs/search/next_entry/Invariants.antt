-- `next_entry` passes over blocks, then over entries. Assumes nothing.
use Rattle.kept.specs.Next.{Skipped}
use Rattle.kept.proofs.search.next_entry.Given as goal

abbrev pub invariant-loop-k : goal.invariant-loop-k
invariant-loop-k l = Skipped l.rows l.cols l.i l.from l.k
