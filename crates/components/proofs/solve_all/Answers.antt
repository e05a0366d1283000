-- `solve_all` goes through the starts, rising. Assumes nothing.
use Prim.Native.Nat.{◌-◌}
use mathlib.Core.Path.{sym, ◌∙◌}
use Rattle.field.specs.Field.{field_of}
use Rattle.components.proofs.Staging.{Staging, staging_start, staging_turn, staging_done}
use borrow.Author.Rules.{rules}
use Rattle.components.proofs.solve_all.Goals as goal

pub loop-start-init : goal.loop-start-init
loop-start-init c = staging_start c.requires

pub solve_start-requires : goal.solve_start-requires
solve_start-requires c = record { standing = c.loop-start.invariant.staged.standing; start_bound = c.loop-start-test.true }

pub loop-start-preserved : goal.loop-start-preserved
loop-start-preserved c =
    staging_turn c.loop-start.invariant c.loop-start-test.true c.solve_start.ensures

pub shape_of-values : goal.shape_of-values
shape_of-values c = c.loop-start.invariant.staged.standing.values_long ∙ sym c.requires.values_long

pub shape_of-u : goal.shape_of-u
shape_of-u c = c.loop-start.invariant.staged.words_long

pub returns : goal.returns
returns c = staging_done c.loop-start.invariant c.loop-start-test.false
