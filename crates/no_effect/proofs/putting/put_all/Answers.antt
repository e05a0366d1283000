-- `put_all` puts one variable a turn. Assumes nothing.
use native.Mathlib.Omega.{arith}
use Rattle.no_effect.proofs.Chosen.{fills_turn, fills_done}
use Rattle.no_effect.proofs.putting.put_all.Goals as goal

pub loop-i-preserved : goal.loop-i-preserved
loop-i-preserved c =
    fills_turn c.loop-i.invariant c.loop-i-test.true c.put_at-count.ensures

pub returns : goal.returns
returns c = fills_done c.loop-i.invariant (omega arith)
