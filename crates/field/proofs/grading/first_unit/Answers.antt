-- `first_unit` finds the first unit that both measures allow. Assumes nothing.
use Rattle.field.proofs.Measure.{greater_max, first_above, first_linear, first_quad, first_found}
use Rattle.field.proofs.grading.first_unit.Goals as goal

pub returns-then-u-ge-NONE : goal.returns-then-u-ge-NONE
returns-then-u-ge-NONE c = first_above (greater_max c.max.ensures) (greater_max c.max-u.ensures) c.if-u-ge-NONE.true

pub returns-then-linear-u : goal.returns-then-linear-u
returns-then-linear-u c = first_linear (greater_max c.max.ensures) (greater_max c.max-u.ensures) c.if-linear-u.true

pub returns-then-quad-u : goal.returns-then-quad-u
returns-then-quad-u c = first_quad (greater_max c.max.ensures) (greater_max c.max-u.ensures) c.if-quad-u.true

pub returns : goal.returns
returns c = first_found (greater_max c.max.ensures) (greater_max c.max-u.ensures) c.if-u-ge-NONE.false c.if-linear-u.false c.if-quad-u.false
