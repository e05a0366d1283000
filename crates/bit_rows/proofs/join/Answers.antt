-- `join` sets one word a turn. Assumes nothing.
use native.Mathlib.Omega.{arith}
use Rattle.bit_rows.proofs.Rows.{join_turn, join_done}
use Rattle.bit_rows.proofs.join.Goals as goal

pub loop-t-preserved : goal.loop-t-preserved
loop-t-preserved c = join_turn c.loop-t.invariant c.loop-t-test.true c.requires.a_in_bounds

pub returns : goal.returns
returns c = join_done c.loop-t.invariant (omega arith)
