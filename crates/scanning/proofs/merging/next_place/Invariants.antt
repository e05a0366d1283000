-- `next_place` goes on until a place has the end and a large enough other end. Assumes nothing.
use Rattle.scanning.specs.Merge.{near_at, far_at}
use Rattle.scanning.proofs.Search.{Searching}
use Rattle.scanning.proofs.merging.next_place.Given as goal

abbrev pub invariant-loop-p : goal.invariant-loop-p
invariant-loop-p l = Searching (near_at l.near l.u l.from l.i) (far_at l.far l.u l.from) l.b l.at l.end l.p
