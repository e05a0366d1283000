-- `back_list` puts back the neighbours of one variable a turn. Assumes nothing.
use mathlib.Core.Path.{refl}
use Rattle.workspace.proofs.Restored.{backs_start, backs_asks, backs_turn, backs_done}
use Rattle.workspace.proofs.restoring.back_list.Goals as goal

pub loop-h-init : goal.loop-h-init
loop-h-init c = backs_start c.requires

pub back-requires : goal.back-requires
back-requires c = let both = backs_asks c.loop-h.invariant c.loop-h-test.true refl in
    record { backable = both.0; x_lt_n = both.1 }

pub loop-h-preserved : goal.loop-h-preserved
loop-h-preserved c =
    backs_turn c.loop-h.invariant c.loop-h-test.true refl c.back.ensures

pub shape_of-f : goal.shape_of-f
shape_of-f c = c.loop-h.invariant.long

pub returns : goal.returns
returns c = backs_done c.loop-h.invariant c.loop-h-test.false
