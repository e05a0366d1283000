-- `add_columns` makes one turn of the pass at a time, with the row of the column held. Assumes nothing.
use lib.ListN.{set}
use Rattle.field.specs.Field.{lent}
use Rattle.rows.proofs.Held.{Holding}
use Rattle.single.proofs.making.add_columns.Given as goal

abbrev pub invariant-loop-k : goal.invariant-loop-k
invariant-loop-k l = Holding (lent l.field) (set l.start l.i l.v) l.initial.f l.f l.j l.row l.k
