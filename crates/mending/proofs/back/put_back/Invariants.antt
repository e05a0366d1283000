-- `put_back` writes one entry a turn. Assumes nothing.
use Prim.Native.Nat.{◌-◌}
use Rattle.mending.proofs.Returning.{Returning}
use Rattle.mending.proofs.back.put_back.Given as goal

abbrev pub invariant-loop-t : goal.invariant-loop-t
invariant-loop-t l = Returning l.n l.o l.f l.u l.initial.rows l.rows l.initial.cols l.cols l.initial.q l.q l.t

abbrev pub decreases-loop-t : goal.decreases-loop-t
decreases-loop-t l = l.o - l.t
