-- `gather` takes one entry a turn. Assumes nothing.
use mathlib.Core.Path.{refl}
use native.Mathlib.Omega.{arith}
use Rattle.mending.proofs.Passes.{passing_start, passing_ready, passing_turn, passing_done}
use Rattle.mending.proofs.gathering.gather.Goals as goal

pub loop-t-init : goal.loop-t-init
loop-t-init c = passing_start c.requires.roomy c.requires.u_value

pub bounds-u-t : goal.bounds-u-t
bounds-u-t c = omega (arith, c.loop-t.invariant.words_long, c.requires.roomy.words)

pub take_entry-o-requires : goal.take_entry-o-requires
take_entry-o-requires c =
    passing_ready c.requires.roomy c.loop-t.invariant c.loop-t-test.true refl

pub loop-t-preserved : goal.loop-t-preserved
loop-t-preserved c =
    passing_turn c.requires.roomy c.loop-t.invariant c.loop-t-test.true refl c.take_entry-o.ensures

pub shape_of-f : goal.shape_of-f
shape_of-f c = c.loop-t.invariant.floats_long

pub shape_of-u : goal.shape_of-u
shape_of-u c = c.loop-t.invariant.words_long

pub returns : goal.returns
returns c = passing_done c.requires.roomy c.loop-t.invariant (omega arith)
