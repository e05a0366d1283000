-- `put_variables` goes through one variable a turn. Assumes nothing.
use native.Mathlib.Omega.{arith}
use Rattle.text.proofs.Writes.{show_start, show_turn}
use Rattle.text.proofs.put_variables.Goals as goal

pub loop-i-init : goal.loop-i-init
loop-i-init c = show_start _ _ _ _

pub loop-i-preserved : goal.loop-i-preserved
loop-i-preserved c = show_turn c.loop-i.invariant (omega arith) c.put_variable-shown.auto.out c.put_variable-shown.ensures
