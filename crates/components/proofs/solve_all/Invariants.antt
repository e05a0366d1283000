-- `solve_all` goes through the starts, rising. Assumes nothing.
use Prim.Native.Nat.{◌-◌}
use mathlib.Core.Path.{sym, ◌∙◌}
use Rattle.field.specs.Field.{field_of, lent}
use Rattle.components.proofs.Staging.{Staging, staging_start, staging_turn, staging_done}
use borrow.Author.Rules.{rules}
use Rattle.components.proofs.solve_all.Given as goal

abbrev pub invariant-loop-start : goal.invariant-loop-start
invariant-loop-start l = Staging (lent l.field) l.initial.values l.initial.u l.values l.u l.start

abbrev pub decreases-loop-start : goal.decreases-loop-start
decreases-loop-start l = l.n - l.start
