-- `put` writes the change of one entry a turn. Assumes nothing.
use mathlib.Core.Path.{refl}
use native.Mathlib.Omega.{arith}
use Rattle.mending.proofs.Told.{telling_start, telling_ready, telling_turn, telling_done}
use Rattle.mending.proofs.report.put.Goals as goal

pub loop-k-init : goal.loop-k-init
loop-k-init c = telling_start c.requires

pub bounds-u-m : goal.bounds-u-m
bounds-u-m c = omega (arith, c.requires.marked)

pub put_change-at-requires : goal.put_change-at-requires
put_change-at-requires c = telling_ready c.requires c.loop-k.invariant c.loop-k-test.true refl

pub loop-k-preserved : goal.loop-k-preserved
loop-k-preserved c =
    telling_turn c.requires c.loop-k.invariant c.loop-k-test.true refl c.put_change-at.auto.report c.put_change-at.ensures

pub shape_of-report : goal.shape_of-report
shape_of-report c = c.loop-k.invariant.long

pub returns : goal.returns
returns c = telling_done c.requires c.loop-k.invariant (omega arith)
