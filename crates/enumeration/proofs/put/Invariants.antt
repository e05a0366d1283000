-- `put` goes through the bits, rising. Assumes nothing.
use Rattle.enumeration.proofs.Putting.{Putting}
use Rattle.enumeration.proofs.put.Given as goal

abbrev pub invariant-loop-b : goal.invariant-loop-b
invariant-loop-b l = Putting l.initial.values l.u l.at l.count l.mask l.values l.b
