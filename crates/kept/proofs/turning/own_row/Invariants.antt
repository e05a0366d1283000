-- `own_row` adds one term a turn. Assumes nothing.
use Prim.Native.Nat.{◌-◌}
use lib.ListN.{length}
use Rattle.field.specs.Field.{lent}
use Rattle.kept.proofs.Entries.{Adds}
use Rattle.kept.proofs.turning.own_row.Given as goal

abbrev pub invariant-loop-k : goal.invariant-loop-k
invariant-loop-k l = Adds (lent l.field) l.values l.i l.row l.k

abbrev pub decreases-loop-k : goal.decreases-loop-k
decreases-loop-k l = length l.field.rows.now - l.k
