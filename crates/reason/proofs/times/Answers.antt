-- `times` has the product of as many turns as it has done. Assumes nothing.
use native.Mathlib.Omega.{arith}
use Rattle.reason.proofs.Explained.{times_start, times_turn, times_done}
use Rattle.reason.proofs.times.Goals as goal

pub loop-init : goal.loop-init
loop-init c = (omega arith, times_start _ _)

pub loop-preserved : goal.loop-preserved
loop-preserved c = (omega (arith, c.loop-test.true), times_turn _ _ _ c.loop.invariant.1)

pub returns : goal.returns
returns c = times_done _ _ c.loop.invariant.1 c.loop.invariant.0 c.loop-test.false
