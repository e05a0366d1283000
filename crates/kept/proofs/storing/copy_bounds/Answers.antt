-- `copy_bounds` copies one bound a turn. Assumes nothing.
use mathlib.Core.Path.{refl}
use native.Mathlib.Omega.{arith}
use Rattle.kept.proofs.Coded.{copy_start, copy_turn, copy_done}
use Rattle.kept.proofs.storing.copy_bounds.Goals as goal

pub loop-i-init : goal.loop-i-init
loop-i-init c = copy_start _ _

pub bounds-f-i : goal.bounds-f-i
bounds-f-i c = omega (arith, c.loop-i.invariant.long, c.requires)

pub loop-i-preserved : goal.loop-i-preserved
loop-i-preserved c = copy_turn c.loop-i.invariant c.requires c.loop-i-test.true refl

pub shape_of-f : goal.shape_of-f
shape_of-f c = c.loop-i.invariant.long

pub returns : goal.returns
returns c = copy_done c.loop-i.invariant c.loop-i-test.false
