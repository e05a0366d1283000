-- `emit_list` takes one variable a turn. Assumes nothing.
use mathlib.Core.Path.{refl}
use Rattle.finding.proofs.Listing.{emitting_start, emitting_long, emitting_read, emitting_asks, emitting_turn, emitting_done}
use Rattle.finding.proofs.emitting.emit_list.Goals as goal

pub loop-p-init : goal.loop-p-init
loop-p-init c = emitting_start c.requires

pub bounds-u-from : goal.bounds-u-from
bounds-u-from c = emitting_read c.loop-p.invariant c.loop-p-test.true

pub emit_from-last-requires : goal.emit_from-last-requires
emit_from-last-requires c = let both = emitting_asks c.loop-p.invariant c.loop-p-test.true refl in
    record { emits = both.0; end_in_bounds = both.1 }

pub loop-p-preserved : goal.loop-p-preserved
loop-p-preserved c = emitting_turn c.loop-p.invariant c.loop-p-test.true refl c.emit_from-last.ensures

pub shape_of-u : goal.shape_of-u
shape_of-u c = emitting_long c.loop-p.invariant

pub returns : goal.returns
returns c = emitting_done c.loop-p.invariant c.loop-p-test.false
