-- `pass` goes over the rows. Assumes nothing.
use native.Mathlib.Omega.{arith}
use Rattle.bit_rows.proofs.Stages.{stage_start, stage_turn}
use Rattle.bit_rows.proofs.pass.Goals as goal

pub loop-a-init : goal.loop-a-init
loop-a-init c = stage_start _ _ _

pub loop-a-preserved : goal.loop-a-preserved
loop-a-preserved c =
    stage_turn (omega (arith, c.requires.rows.few, c.requires.k_lt_n)) c.loop-a-test.true c.loop-a.invariant c.step.ensures
