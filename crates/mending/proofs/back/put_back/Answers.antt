-- `put_back` writes one entry a turn. Assumes nothing.
use mathlib.Core.Path.{refl}
use native.Mathlib.Omega.{arith}
use Rattle.mending.proofs.Returning.{row_narrow, column_narrow, returning_start, returning_turn, returning_done}
use Rattle.mending.proofs.back.put_back.Goals as goal

pub loop-t-init : goal.loop-t-init
loop-t-init c = returning_start c.requires

pub bounds-u-m : goal.bounds-u-m
bounds-u-m c = omega (arith, c.requires.words)

pub overflow_cast-rows : goal.overflow_cast-rows
overflow_cast-rows c =
    omega (arith, row_narrow c.requires.few_variables refl (c.requires.below _ c.loop-t-test.true))

pub bounds-rows-t : goal.bounds-rows-t
bounds-rows-t c =
    omega (arith, c.loop-t.invariant.rows_long, c.requires.rows_long, c.requires.few)

pub overflow_cast-cols : goal.overflow_cast-cols
overflow_cast-cols c =
    omega (arith, column_narrow c.requires.few_variables refl (c.requires.below _ c.loop-t-test.true))

pub bounds-cols-t : goal.bounds-cols-t
bounds-cols-t c =
    omega (arith, c.loop-t.invariant.cols_long, c.requires.cols_long, c.requires.few)

pub bounds-f-m : goal.bounds-f-m
bounds-f-m c = omega (arith, c.requires.floats)

pub bounds-q-t : goal.bounds-q-t
bounds-q-t c = omega (arith, c.loop-t.invariant.quad_long, c.requires.few)

pub loop-t-preserved : goal.loop-t-preserved
loop-t-preserved c =
    returning_turn c.requires c.loop-t.invariant c.loop-t-test.true refl

pub shape_of-rows : goal.shape_of-rows
shape_of-rows c = c.loop-t.invariant.rows_long

pub shape_of-cols : goal.shape_of-cols
shape_of-cols c = c.loop-t.invariant.cols_long

pub shape_of-q : goal.shape_of-q
shape_of-q c = c.loop-t.invariant.quad_long

pub returns : goal.returns
returns c = returning_done c.requires c.loop-t.invariant (omega arith)
