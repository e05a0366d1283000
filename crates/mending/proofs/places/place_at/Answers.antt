-- `place_at` tests the row, then the column. Assumes nothing.
use native.Mathlib.Omega.{arith}
use Rattle.mending.proofs.Entries.{square_few, place_inside, row_outside, column_outside, inside_at}
use Rattle.mending.proofs.places.place_at.Goals as goal

pub overflow_mul-result : goal.overflow_mul-result
overflow_mul-result c = omega (arith, square_few _ c.requires.listed.few_variables)

pub returns-then-row-n : goal.returns-then-row-n
returns-then-row-n c = row_outside _ _ c.from-row.ensures c.if-row-n.true

pub overflow_mul-result-then-col-n : goal.overflow_mul-result-then-col-n
overflow_mul-result-then-col-n c = omega (arith, square_few _ c.requires.listed.few_variables)

pub returns-then-col-n : goal.returns-then-col-n
returns-then-col-n c = column_outside _ _ c.from-col.ensures c.if-col-n.true

pub overflow_mul-result-2 : goal.overflow_mul-result-2
overflow_mul-result-2 c =
    omega (arith, square_few _ c.requires.listed.few_variables, place_inside _ _ _ c.if-row-n.false c.if-col-n.false)

pub overflow_add-result : goal.overflow_add-result
overflow_add-result c =
    omega (arith, square_few _ c.requires.listed.few_variables, place_inside _ _ _ c.if-row-n.false c.if-col-n.false)

pub returns : goal.returns
returns c = inside_at _ _ c.from-row.ensures c.from-col.ensures (omega arith) (omega arith)
