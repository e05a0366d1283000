-- `close` goes over the stages. Assumes nothing.
use Rattle.bit_rows.proofs.Stages.{close_start, close_turn}
use Rattle.bit_rows.proofs.close.Goals as goal

pub loop-k-init : goal.loop-k-init
loop-k-init c = close_start _ _

pub loop-k-preserved : goal.loop-k-preserved
loop-k-preserved c = close_turn c.requires.few c.loop-k-test.true c.loop-k.invariant c.pass.ensures
