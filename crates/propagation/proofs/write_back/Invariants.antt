-- `write_back` copies one value a turn. Assumes nothing.
use Rattle.propagation.proofs.Copies.{Copied}
use Rattle.propagation.proofs.write_back.Given as goal

abbrev pub invariant-loop-i : goal.invariant-loop-i
invariant-loop-i l = Copied l.initial.start l.u l.start l.i
