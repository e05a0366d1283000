-- `least_unit` counts from the finest unit. Assumes nothing.
use native.Mathlib.Omega.{arith}
use Rattle.field.proofs.Exact.{unit_within}
use Rattle.field.proofs.grading.least_unit.Goals as goal

pub half_unit-requires : goal.half_unit-requires
half_unit-requires c = c.requires

pub overflow_sub-result : goal.overflow_sub-result
overflow_sub-result c = let w = unit_within _ c.half_unit.ensures in omega (arith, w.0, w.1, c.half_unit.ensures)

pub overflow_cast-result : goal.overflow_cast-result
overflow_cast-result c = let w = unit_within _ c.half_unit.ensures in omega (arith, w.0, w.1, c.half_unit.ensures)

pub returns : goal.returns
returns c = let w = unit_within _ c.half_unit.ensures in omega (arith, w.0, w.1, c.half_unit.ensures)
