-- `lay` stores one value a turn. Assumes nothing.
use lib.ListN.{length}
use Rattle.cold.proofs.Probed.{Laying}
use Rattle.cold.proofs.twice.lay.Given as goal

abbrev pub invariant-loop-j : goal.invariant-loop-j
invariant-loop-j l = Laying l.first (length l.values) l.j l.values l.initial.u l.u
