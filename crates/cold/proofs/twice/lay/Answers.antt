-- `lay` stores one value a turn. Assumes nothing.
use Rattle.cold.proofs.Probed.{laying_start, laying_room, laying_turn, laying_done}
use Rattle.cold.proofs.twice.lay.Goals as goal

pub loop-j-init : goal.loop-j-init
loop-j-init c = laying_start _ _ _ _ c.requires

pub bounds-u-first : goal.bounds-u-first
bounds-u-first c = laying_room c.loop-j.invariant c.loop-j-test.true

pub loop-j-preserved : goal.loop-j-preserved
loop-j-preserved c = laying_turn c.loop-j.invariant c.loop-j-test.true c.from.ensures

pub shape_of-u : goal.shape_of-u
shape_of-u c = c.loop-j.invariant.laid.long

pub returns : goal.returns
returns c = laying_done c.loop-j.invariant c.loop-j-test.false
