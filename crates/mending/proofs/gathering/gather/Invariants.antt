-- `gather` takes one entry a turn. Assumes nothing.
use Rattle.field.specs.Field.{lent}
use Rattle.mending.proofs.Passes.{Passing}
use Rattle.mending.proofs.gathering.gather.Given as goal

abbrev pub invariant-loop-t : goal.invariant-loop-t
invariant-loop-t l = Passing (lent l.field) l.initial.f l.f l.initial.u l.u l.t l.o
