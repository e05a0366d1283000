-- `undo` puts one value back a turn. Assumes nothing.
use mathlib.Core.Path.{refl}
use Rattle.workspace.proofs.Backed.{undo_start, undo_below, undo_turn, undo_done}
use Rattle.workspace.proofs.restoring.undo.Goals as goal

pub loop-h-init : goal.loop-h-init
loop-h-init c = undo_start c.requires

pub bounds-start-x : goal.bounds-start-x
bounds-start-x c = (undo_below c.loop-h.invariant c.loop-h-test.true refl).0

pub bounds-values-x : goal.bounds-values-x
bounds-values-x c = (undo_below c.loop-h.invariant c.loop-h-test.true refl).1

pub loop-h-preserved : goal.loop-h-preserved
loop-h-preserved c = undo_turn c.loop-h.invariant c.loop-h-test.true refl

pub returns : goal.returns
returns c = undo_done c.loop-h.invariant c.loop-h-test.false
