-- `plain_sum` goes along the places of a variable. Assumes nothing.
use mathlib.Core.Path.{refl}
use Rattle.places.proofs.Walk.{walk_turn}
use Rattle.anchors.proofs.Summing.{adding_start, adding_entry, adding_turn, adding_done}
use Rattle.anchors.proofs.sums.plain_sum.Goals as goal

pub loop-p-init : goal.loop-p-init
loop-p-init c = adding_start c.requires refl refl

pub bounds-u-n : goal.bounds-u-n
bounds-u-n c = (walk_turn c.loop-p.invariant.along.walk c.loop-p-test.true).index

pub bounds-field-k : goal.bounds-field-k
bounds-field-k c = adding_entry c.loop-p.invariant c.loop-p-test.true c.entry_in-k.ensures

pub loop-p-preserved : goal.loop-p-preserved
loop-p-preserved c = adding_turn c.loop-p.invariant c.loop-p-test.true c.entry_in-k.ensures

pub returns : goal.returns
returns c = adding_done c.loop-p.invariant c.loop-p-test.false
