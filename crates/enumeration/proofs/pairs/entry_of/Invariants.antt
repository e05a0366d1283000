-- `entry_of` goes through the places of i, rising. Assumes nothing.
use Rattle.field.specs.Field.{lent}
use Rattle.enumeration.proofs.Sought.{Seeking}
use Rattle.enumeration.proofs.pairs.entry_of.Given as goal

abbrev pub invariant-loop-p : goal.invariant-loop-p
invariant-loop-p l = Seeking (lent l.field) l.i l.j l.u l.end l.p
