-- `list_back` enters one variable a turn. Assumes nothing.
use native.Mathlib.Omega.{arith}
use Rattle.sub_problem.proofs.NumberLoops.{lists_start, lists_turn, lists_done}
use Rattle.sub_problem.proofs.numbers.list_back.Goals as goal

pub loop-i-init : goal.loop-i-init
loop-i-init c = lists_start c.requires.start_in_bounds

pub enter-requires : goal.enter-requires
enter-requires c = record { numbers = c.requires.numbers; i_in_bounds = c.loop-i-test.true; start_in_bounds = omega (arith, c.loop-i.invariant.room, c.loop-i.invariant.long) }

pub loop-i-preserved : goal.loop-i-preserved
loop-i-preserved c = lists_turn c.loop-i.invariant c.loop-i-test.true c.enter.ensures

pub returns : goal.returns
returns c = lists_done c.loop-i.invariant (omega arith)
