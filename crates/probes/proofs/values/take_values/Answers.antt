-- `take_values` writes one value a turn. Assumes nothing.
use mathlib.Core.Path.{refl, ◌∙◌}
use native.Mathlib.Omega.{arith}
use Rattle.probe.proofs.Laws.{write_start, write_turn, write_done}
use Rattle.probes.proofs.Standing.{up_to_region}
use Rattle.probes.proofs.values.take_values.Goals as goal

pub loop-j-init : goal.loop-j-init
loop-j-init c = write_start _ _

pub overflow_cast-value : goal.overflow_cast-value
overflow_cast-value c = omega (arith, c.requires.small _ c.loop-j-test.true)

pub loop-j-preserved : goal.loop-j-preserved
loop-j-preserved c = write_turn _ _ c.loop-j.invariant (omega arith) refl

pub returns : goal.returns
returns c = write_done _ _ c.loop-j.invariant (omega arith) ∙ up_to_region _ _ _ c.requires.room
