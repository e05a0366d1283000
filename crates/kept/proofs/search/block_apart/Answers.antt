-- `block_apart` tests one entry a turn. Assumes nothing.
use native.Mathlib.Omega.{arith}
use Rattle.scratch.proofs.All.{testing_start, testing_turn, testing_done}
use Rattle.kept.proofs.search.block_apart.Goals as goal

pub loop-k-init : goal.loop-k-init
loop-k-init c = testing_start _ _

pub loop-k-preserved : goal.loop-k-preserved
loop-k-preserved c = testing_turn _ c.loop-k.invariant (omega arith) c.is_apart-apart.ensures

pub returns : goal.returns
returns c = testing_done _ c.loop-k.invariant (omega arith)
