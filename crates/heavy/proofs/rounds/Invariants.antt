-- `rounds` does one round a turn. Assumes nothing.
use lib.ListN.{length}
use Rattle.field.specs.Field.{lent}
use Rattle.heavy.proofs.Going.{Going}
use Rattle.heavy.proofs.rounds.Given as goal

abbrev pub invariant-loop : goal.invariant-loop
invariant-loop l = Going (lent l.field) l.initial.values (length l.initial.f) (length l.initial.u) l.counter l.values l.free (length l.f) l.u (length l.probed)
