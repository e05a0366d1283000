-- `half_unit` measures the linear weights, then the entries' weights. Assumes nothing.
use Rattle.field.proofs.Means.{all_finite_means}
use Rattle.field.proofs.Measure.{unit_is}
use Rattle.field.proofs.grading.half_unit.Goals as goal

pub measured-linear-requires : goal.measured-linear-requires
measured-linear-requires c = (all_finite_means _).1 c.requires.linear

pub measured-quad-requires : goal.measured-quad-requires
measured-quad-requires c = (all_finite_means _).1 c.requires.quad

pub first_unit-requires : goal.first_unit-requires
first_unit-requires c = (c.measured-linear.ensures.low, c.measured-quad.ensures.low)

pub returns : goal.returns
returns c = unit_is c.measured-linear.ensures c.measured-quad.ensures c.first_unit.ensures
