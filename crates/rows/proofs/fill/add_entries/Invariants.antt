-- `add_entries` makes one turn of the pass at a time. Assumes nothing.
use Rattle.field.specs.Field.{lent}
use Rattle.rows.specs.Stored.{Passed}
use Rattle.rows.proofs.fill.add_entries.Given as goal

abbrev pub invariant-loop-k : goal.invariant-loop-k
invariant-loop-k l = Passed (lent l.field) l.values l.initial.f l.f l.k
