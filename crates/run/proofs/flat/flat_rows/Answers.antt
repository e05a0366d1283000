-- `flat_rows` is the model's count, a variable at a turn. Assumes nothing.
use native.Mathlib.Omega.{arith}
use Rattle.run.proofs.FlatRows.{count_start, count_few, count_turn, count_done}
use Rattle.run.proofs.flat.flat_rows.Goals as goal

pub loop-i-init : goal.loop-i-init
loop-i-init c = count_start _ _

pub flat_at-flat-requires : goal.flat_at-flat-requires
flat_at-flat-requires c = record { i_in_bounds = c.loop-i-test.true; i_in_bounds_2 = omega (arith, c.requires) }

pub overflow_add-flat : goal.overflow_add-flat
overflow_add-flat c = omega (arith, count_few c.loop-i.invariant c.flat_at-flat.ensures)

pub loop-i-preserved : goal.loop-i-preserved
loop-i-preserved c = count_turn c.loop-i.invariant c.flat_at-flat.ensures c.loop-i-test.true

pub returns : goal.returns
returns c = count_done c.loop-i.invariant c.loop-i-test.false
