-- `in_half_units` doubles or halves. Assumes nothing.
use Rattle.reason.proofs.Explained.{fine_is, coarse_is}
use Rattle.reason.proofs.in_half_units.Goals as goal

pub returns-then-unit-le21 : goal.returns-then-unit-le21
returns-then-unit-le21 c = fine_is _ _ c.if-unit-le21.true c.times.ensures

pub returns : goal.returns
returns c = coarse_is _ _ c.if-unit-le21.false c.times-2.ensures
