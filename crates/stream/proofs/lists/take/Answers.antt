-- `take` stores one element a turn. Assumes nothing.
use native.Mathlib.Omega.{arith}
use Rattle.stream.proofs.Taken.{take_start, take_turn, take_done}
use Rattle.stream.proofs.lists.take.Goals as goal

pub loop-i-init : goal.loop-i-init
loop-i-init g c = take_start _ _ _

pub loop-i-preserved : goal.loop-i-preserved
loop-i-preserved g c = take_turn _ _ _ c.loop-i.invariant (omega arith) _ c.read.ensures

pub returns : goal.returns
returns g c = take_done _ _ _ c.loop-i.invariant (omega arith)
