-- `walk_rows` makes one turn of the walk at a time. Assumes nothing.
use mathlib.Core.Path.{sym, ◌∙◌}
use Rattle.margins.proofs.MergeLaws.{going_start, going_turn, going_falls, going_done}
use Rattle.margins.proofs.walking.walk_rows.Goals as goal

pub loop-w-init : goal.loop-w-init
loop-w-init c = going_start _ _ c.requires

pub loop-w-smaller : goal.loop-w-smaller
loop-w-smaller c = going_falls _ _ (sym c.is_going.ensures ∙ c.loop-w-test.true) c.turn-w.ensures

pub loop-w-preserved : goal.loop-w-preserved
loop-w-preserved c = going_turn _ c.loop-w.invariant (sym c.is_going.ensures ∙ c.loop-w-test.true) c.turn-w.ensures

pub returns : goal.returns
returns c = going_done _ c.loop-w.invariant (sym c.is_going.ensures ∙ c.loop-w-test.false)
