-- `back` is the fold over the places of a variable. Assumes nothing.
use mathlib.Core.Path.{refl}
use Rattle.places.proofs.Walk.{walk_turn}
use Rattle.workspace.proofs.Backed.{back_start, back_asks, back_turn, back_done}
use Rattle.workspace.proofs.restoring.back.Goals as goal

pub loop-p-init : goal.loop-p-init
loop-p-init c =
    back_start c.requires.backable c.requires.x_lt_n refl refl

pub bounds-u-n : goal.bounds-u-n
bounds-u-n c = (walk_turn c.loop-p.invariant.along.walk c.loop-p-test.true).index

pub back_at-requires : goal.back_at-requires
back_at-requires c = let both = back_asks c.loop-p.invariant c.loop-p-test.true c.end_in-t.ensures in
    record { t_lt_n = both.0; n_in_bounds = both.1 }

pub loop-p-preserved : goal.loop-p-preserved
loop-p-preserved c = back_turn c.loop-p.invariant c.loop-p-test.true c.end_in-t.ensures c.back_at.ensures

pub shape_of-f : goal.shape_of-f
shape_of-f c = c.loop-p.invariant.long

pub returns : goal.returns
returns c = back_done c.loop-p.invariant c.loop-p-test.false
