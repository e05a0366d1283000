-- `restore` puts back values, then rows, all in one copy or those that were touched. Assumes nothing.
use mathlib.Core.Path.{sym, ap, ◌∙◌}
use mathlib.Core.Logic.{inl}
use native.Mathlib.Omega.{arith}
use lib.Ieee.{nan}
use lib.ListN.{length}
use Rattle.workspace.proofs.Restored.{touched_able, touched_rows, touched_filled, touched_copied, touched_values}
use Rattle.workspace.proofs.restoring.restore.Goals as goal

pub undo-requires : goal.undo-requires
undo-requires c =
    touched_values c.requires

pub copy_part-requires : goal.copy_part-requires
copy_part-requires c =
    record { order = inl (omega arith); from_room = omega (arith, c.requires.rowed.room); to_room = omega (arith, c.requires.rowed.room) }

pub shape_of-values-then-n-count : goal.shape_of-values-then-n-count
shape_of-values-then-n-count c =
    ap length c.undo.ensures ∙ c.requires.start_long ∙ sym c.requires.placed.values_long

pub returns-then-n-count : goal.returns-then-n-count
returns-then-n-count c = record { values_value = c.undo.ensures; filled = touched_copied c.requires (c.copy_part.ensures nan) }

pub back-requires : goal.back-requires
back-requires c = record { backable = touched_able c.requires; x_lt_n = c.requires.here }

pub back_list-requires : goal.back_list-requires
back_list-requires c =
    touched_rows c.requires c.back.ensures

pub shape_of-values : goal.shape_of-values
shape_of-values c =
    ap length c.undo.ensures ∙ c.requires.start_long ∙ sym c.requires.placed.values_long

pub returns : goal.returns
returns c = record { values_value = c.undo.ensures; filled = touched_filled c.requires c.back.ensures c.back_list.ensures }
