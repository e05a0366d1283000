-- `add_all_given` adds one variable a turn. Assumes nothing.
use native.Mathlib.Omega.{arith}
use Rattle.sub_problem.proofs.GatherLoops.{adds_start, adds_turn, adds_done}
use Rattle.sub_problem.proofs.gathering.add_all_given.Goals as goal

pub loop-i-init : goal.loop-i-init
loop-i-init c = adds_start

pub add_given-sum-requires : goal.add_given-sum-requires
add_given-sum-requires c = record { i_in_bounds = c.loop-i-test.true; i_in_bounds_2 = omega (arith, c.requires) }

pub loop-i-preserved : goal.loop-i-preserved
loop-i-preserved c = adds_turn c.loop-i.invariant c.loop-i-test.true c.add_given-sum.ensures

pub returns : goal.returns
returns c = adds_done c.loop-i.invariant (omega arith)
