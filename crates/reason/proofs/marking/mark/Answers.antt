-- `mark` marks the other ends, a place at a turn. Assumes nothing.
use mathlib.Core.Path.{refl}
use Rattle.reason.proofs.MarkTurns.{mark_start, mark_index, mark_below, mark_turn, mark_done}
use Rattle.reason.proofs.marking.mark.Goals as goal

pub loop-p-init : goal.loop-p-init
loop-p-init c = mark_start c.requires.ends_below c.requires.adjacent c.requires.i_in_bounds refl refl

pub bounds-u-n : goal.bounds-u-n
bounds-u-n c = mark_index c.loop-p.invariant c.loop-p-test.true

pub bounds-values-t : goal.bounds-values-t
bounds-values-t c = mark_below c.loop-p.invariant c.loop-p-test.true c.end_in-t.ensures

pub bounds-values-t-in-loop-p : goal.bounds-values-t-in-loop-p
bounds-values-t-in-loop-p c = mark_below c.loop-p.invariant c.loop-p-test.true c.end_in-t.ensures

pub loop-p-preserved : goal.loop-p-preserved
loop-p-preserved c = mark_turn c.loop-p.invariant c.loop-p-test.true c.end_in-t.ensures c.marked.ensures

pub shape_of-values : goal.shape_of-values
shape_of-values c = c.loop-p.invariant.long

pub returns : goal.returns
returns c = mark_done c.loop-p.invariant c.loop-p-test.false
