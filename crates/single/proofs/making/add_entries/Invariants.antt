-- `add_entries` makes one turn of the pass at a time. Assumes nothing.
use lib.ListN.{set}
use Rattle.field.specs.Field.{lent}
use Rattle.rows.specs.Stored.{Passed}
use Rattle.single.proofs.making.add_entries.Given as goal

abbrev pub invariant-loop-k : goal.invariant-loop-k
invariant-loop-k l = Passed (lent l.field) (set l.start l.i l.v) l.initial.f l.f l.k
