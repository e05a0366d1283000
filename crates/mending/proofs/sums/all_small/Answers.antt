-- `all_small` tests one weight a turn. Assumes nothing.
use mathlib.Core.Path.{ap}
use lib.Ieee.{Float, le, nan_bits}
use Rattle.scratch.proofs.All.{testing_start, testing_turn, testing_done}
use Rattle.mending.specs.Sums.{limit64, all_small}
use borrow.Author.Rules.{rules}
use Rattle.mending.proofs.sums.all_small.Goals as goal

pub float_from_bits-limit : goal.float_from_bits-limit
unfolding nan_bits
float_from_bits-limit c = tt

pub loop-w-init : goal.loop-w-init
loop-w-init c = testing_start _ _

pub loop-w-preserved : goal.loop-w-preserved
loop-w-preserved c = testing_turn _ c.loop-w.invariant (search rules) (ap (λ (x : Float). le x limit64) c.magnitude.ensures)

pub returns : goal.returns
unfolding all_small
returns c = testing_done _ c.loop-w.invariant (search rules)
