-- `store_rows` stores one row a turn. Assumes nothing.
use mathlib.Core.Path.{ap, ◌∙◌}
use native.Mathlib.Omega.{arith}
use Rattle.rows.proofs.Stored.{written_none, written_put, written_fewer}
use Rattle.kept.specs.Kept.{stored_row}
use Rattle.kept.proofs.storing.store_rows.Goals as goal

pub loop-t-init : goal.loop-t-init
loop-t-init c = written_none _

pub loop-t-preserved : goal.loop-t-preserved
loop-t-preserved c =
    written_put c.loop-t.invariant c.loop-t-test.true (omega (arith, c.requires.bounds_len)) (c.stored_row.ensures ∙ ap (stored_row _) c.row_at.ensures) c.put_row.ensures

pub shape_of-bounds : goal.shape_of-bounds
shape_of-bounds c = c.loop-t.invariant.long

pub returns : goal.returns
returns c = written_fewer c.loop-t.invariant c.loop-t-test.false
