-- `add_entries` adds one entry a turn. Assumes nothing.
use Rattle.field.specs.Field.{lent}
use Rattle.ranking.specs.Masses.{Massed}
use Rattle.ranking.proofs.masses.add_entries.Given as goal

abbrev pub invariant-loop-k : goal.invariant-loop-k
invariant-loop-k l = Massed (lent l.field) l.start l.w l.k
