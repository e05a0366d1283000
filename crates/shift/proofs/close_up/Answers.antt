-- `close_up` closes up one entry a turn. Assumes nothing.
use native.Mathlib.Omega.{arith}
use Rattle.shift.proofs.Loop.{stands_start, stands_ready, stands_turn, stands_done}
use Rattle.shift.proofs.close_up.Goals as goal

pub loop-k-init : goal.loop-k-init
loop-k-init c = stands_start c.requires.shaped

pub close_at-kept-requires : goal.close_at-kept-requires
close_at-kept-requires c =
    stands_ready c.requires.shaped c.loop-k.invariant c.loop-k-test.true

pub loop-k-preserved : goal.loop-k-preserved
loop-k-preserved c =
    stands_turn c.requires.shaped c.loop-k.invariant c.loop-k-test.true c.close_at-kept.ensures

pub returns : goal.returns
returns c = stands_done c.requires.shaped c.loop-k.invariant (omega arith)
