-- `fix_idle` fixes one variable a turn. Assumes nothing.
use lib.ListN.{length}
use Rattle.preprocess.specs.Working.{idle}
use Rattle.preprocess.proofs.Zeros.{Fixes}
use Rattle.preprocess.proofs.fixing.fix_idle.Given as goal

abbrev pub invariant-loop-i : goal.invariant-loop-i
invariant-loop-i l = Fixes (idle l.field.c.now l.u) (length l.field.c.now) l.initial.values l.i l.values
