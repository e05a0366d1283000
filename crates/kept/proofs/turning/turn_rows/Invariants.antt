-- `turn_rows` goes from one entry of the variable to the next. Assumes nothing.
use Prim.Native.Nat.{◌-◌}
use lib.ListN.{length}
use Rattle.field.specs.Field.{lent}
use Rattle.kept.proofs.Entries.{Turns}
use Rattle.kept.proofs.turning.turn_rows.Given as goal

abbrev pub invariant-loop-k : goal.invariant-loop-k
invariant-loop-k l = Turns (lent l.field) l.values l.i l.old l.new l.initial.bounds l.bounds l.k

abbrev pub decreases-loop-k : goal.decreases-loop-k
decreases-loop-k l = length l.field.rows.now - l.k
