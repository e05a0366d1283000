-- `take_back` frees the queue from head on, a variable at a turn. Assumes nothing.
use mathlib.Core.Path.{refl}
use Rattle.reason.proofs.Halting.{back_start, back_turn, back_index, back_below, back_done, back_same}
use Rattle.reason.proofs.halt.take_back.Goals as goal

pub loop-p-init : goal.loop-p-init
loop-p-init c = back_start c.requires.head_le_last c.requires.last_in_bounds c.requires.all_below

pub bounds-u-base : goal.bounds-u-base
bounds-u-base c = back_index c.loop-p.invariant c.loop-p-test.true

pub bounds-values-t : goal.bounds-values-t
bounds-values-t c = back_below c.loop-p.invariant c.loop-p-test.true refl

pub loop-p-preserved : goal.loop-p-preserved
loop-p-preserved c = back_turn c.loop-p.invariant c.loop-p-test.true refl

pub shape_of-values : goal.shape_of-values
shape_of-values c = back_same c.loop-p.invariant

pub returns : goal.returns
returns c = back_done c.loop-p.invariant c.loop-p-test.false
