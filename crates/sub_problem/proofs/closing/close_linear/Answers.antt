-- `close_linear` brings one weight to the front a turn. Assumes nothing.
use native.Mathlib.Omega.{arith}
use Rattle.sub_problem.proofs.CloseLoops.{turn_inside, linear_start, linear_turn, linear_done}
use Rattle.sub_problem.proofs.closing.close_linear.Goals as goal

pub loop-t-init : goal.loop-t-init
loop-t-init c = linear_start c.requires.rising

pub offset_bounds-map-t : goal.offset_bounds-map-t
offset_bounds-map-t c =
    omega (arith, turn_inside c.requires.rising c.loop-t-test.true, c.requires.rising.few)

pub bounds-map-t : goal.bounds-map-t
bounds-map-t c = omega (arith, c.requires.rising.room, c.loop-t-test.true)

pub offset_bounds-f-i : goal.offset_bounds-f-i
offset_bounds-f-i c =
    omega (arith, c.from-i.ensures, c.requires.rising.below _ c.loop-t-test.true, c.requires.rising.few)

pub bounds-f-i : goal.bounds-f-i
bounds-f-i c =
    omega (arith, c.from-i.ensures, c.requires.rising.below _ c.loop-t-test.true, c.requires.c_in_bounds)

pub offset_bounds-c-i : goal.offset_bounds-c-i
offset_bounds-c-i c =
    omega (arith, c.from-i.ensures, c.requires.rising.below _ c.loop-t-test.true, c.requires.rising.few)

pub bounds-c-i : goal.bounds-c-i
bounds-c-i c =
    omega (arith, c.from-i.ensures, c.requires.rising.below _ c.loop-t-test.true, c.loop-t.invariant.long)

pub offset_bounds-c-t : goal.offset_bounds-c-t
offset_bounds-c-t c =
    omega (arith, turn_inside c.requires.rising c.loop-t-test.true, c.requires.rising.few)

pub bounds-c-t : goal.bounds-c-t
bounds-c-t c =
    omega (arith, turn_inside c.requires.rising c.loop-t-test.true, c.loop-t.invariant.long)

pub overflow_step-t : goal.overflow_step-t
overflow_step-t c =
    omega (arith, turn_inside c.requires.rising c.loop-t-test.true, c.requires.rising.few)

pub loop-t-preserved : goal.loop-t-preserved
loop-t-preserved c =
    linear_turn c.requires.rising c.loop-t.invariant c.loop-t-test.true c.from-i.ensures

pub returns : goal.returns
returns c = linear_done c.requires.rising c.loop-t.invariant (omega arith)
