-- `linear_of` goes through the places of i, rising. Assumes nothing.
use Rattle.field.specs.Field.{lent}
use Rattle.enumeration.proofs.Ends.{Summing}
use Rattle.enumeration.proofs.linear.linear_of.Given as goal

abbrev pub invariant-loop-p : goal.invariant-loop-p
invariant-loop-p l = Summing (lent l.field) l.values l.u l.i l.end l.p l.sum
