-- `number` reads one byte a turn, the highest first. Assumes nothing.
use native.Mathlib.Omega.{arith}
use Rattle.endian.proofs.Numbers.{gather_start, gather_turn, gather_fits, gather_done}
use Rattle.endian.proofs.number.Goals as goal

pub loop-i-init : goal.loop-i-init
loop-i-init c = gather_start _ _ _

pub overflow_mul-value : goal.overflow_mul-value
overflow_mul-value c = omega (arith, gather_fits c.loop-i.invariant (omega arith) (omega arith))

pub overflow_add-value : goal.overflow_add-value
overflow_add-value c = omega (arith, gather_fits c.loop-i.invariant (omega arith) (omega arith), c.from.ensures)

pub loop-i-preserved : goal.loop-i-preserved
loop-i-preserved c = gather_turn c.loop-i.invariant (omega arith) (omega arith) _ c.from.ensures (omega (arith, c.from.ensures))

pub returns : goal.returns
returns c = gather_done c.loop-i.invariant (omega arith)
