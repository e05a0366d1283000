-- `next_candidate` goes on until a candidate is large enough. Assumes nothing.
use Rattle.scanning.specs.Merge.{always, list_at}
use Rattle.scanning.proofs.Search.{Searching}
use Rattle.scanning.proofs.merging.next_candidate.Given as goal

abbrev pub invariant-loop-p : goal.invariant-loop-p
invariant-loop-p l = Searching always (list_at l.u l.from) l.b l.at l.end l.p
