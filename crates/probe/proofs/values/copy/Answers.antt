-- `copy` writes one value a turn. Assumes nothing.
use mathlib.Core.Path.{refl, ◌∙◌, ap}
use native.Mathlib.Omega.{arith}
use Rattle.rows.specs.Stored.{up_to}
use Rattle.probe.proofs.Laws.{write_start, write_turn, write_done, up_to_own}
use Rattle.probe.proofs.values.copy.Goals as goal

pub loop-i-init : goal.loop-i-init
loop-i-init c = write_start _ _

pub loop-i-preserved : goal.loop-i-preserved
loop-i-preserved c = write_turn _ _ c.loop-i.invariant (omega arith) refl

pub returns : goal.returns
returns c = write_done _ _ c.loop-i.invariant (omega arith) ∙ ap (up_to _) c.requires ∙ up_to_own _
