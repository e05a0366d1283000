-- `graded` tests the diagonal, then asks for the unit. Assumes nothing.
use mathlib.Core.Path.{sym, ◌∙◌}
use Rattle.field.proofs.Exact.{grade_no, grade_none, grade_yes}
use Rattle.field.proofs.grading.graded.Goals as goal

pub off_diagonal-requires : goal.off_diagonal-requires
off_diagonal-requires c = c.requires.shaped.rows_long ∙ sym c.requires.shaped.cols_long

pub returns-then-not-off_diagonal : goal.returns-then-not-off_diagonal
returns-then-not-off_diagonal c = grade_no _ c.off_diagonal.ensures c.if-not-off_diagonal.true

pub half_unit-requires : goal.half_unit-requires
half_unit-requires c = record { linear = c.requires.finite_weights.linear; quad = c.requires.finite_weights.quad }

pub returns-then-half_unit-eq-NONE : goal.returns-then-half_unit-eq-NONE
returns-then-half_unit-eq-NONE c = grade_none _ c.off_diagonal.ensures c.if-not-off_diagonal.false c.half_unit.ensures c.if-half_unit-eq-NONE.true

pub returns : goal.returns
returns c = grade_yes _ c.off_diagonal.ensures c.if-not-off_diagonal.false c.half_unit.ensures c.if-half_unit-eq-NONE.false
