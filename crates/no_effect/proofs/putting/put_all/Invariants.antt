-- `put_all` puts one variable a turn. Assumes nothing.
use lib.ListN.{length}
use Rattle.no_effect.specs.Effect.{idle}
use Rattle.no_effect.proofs.Chosen.{Fills}
use Rattle.no_effect.proofs.putting.put_all.Given as goal

abbrev pub invariant-loop-i : goal.invariant-loop-i
invariant-loop-i l = Fills (idle l.c l.u) (length l.c) l.initial.list l.i l.list l.count
