-- `keep_new` writes one value a turn. Assumes nothing.
use mathlib.Core.Path.{◌∙◌, ap}
use native.Mathlib.Omega.{arith}
use Rattle.rows.specs.Stored.{up_to}
use Rattle.probe.specs.Call.{new_at, new_only}
use Rattle.probe.proofs.Laws.{write_start, write_turn, write_done}
use Rattle.probe.proofs.values.keep_new.Goals as goal

pub loop-i-init : goal.loop-i-init
loop-i-init c = write_start _ _

pub loop-i-preserved : goal.loop-i-preserved
loop-i-preserved c =
    write_turn _ _ c.loop-i.invariant (omega arith) (c.new_at.ensures ∙ ap (new_at _) (c.loop-i.invariant.rest _ (omega arith)))

pub returns : goal.returns
unfolding new_only
returns c = write_done _ _ c.loop-i.invariant (omega arith) ∙ ap (up_to _) c.requires
