-- `close_entries` closes up one entry a turn. Assumes nothing.
use native.Mathlib.Omega.{arith}
use Rattle.sub_problem.proofs.CloseLoops.{stands_start, stands_ready, stands_turn, stands_done}
use Rattle.sub_problem.proofs.closing.close_entries.Goals as goal

pub loop-k-init : goal.loop-k-init
loop-k-init c = stands_start c.requires.usable

pub close_at-kept-requires : goal.close_at-kept-requires
close_at-kept-requires c = record { closable = stands_ready c.requires.usable c.loop-k.invariant c.loop-k-test.true; numbers = c.requires.numbers }

pub loop-k-preserved : goal.loop-k-preserved
loop-k-preserved c =
    stands_turn c.requires.usable c.loop-k.invariant c.loop-k-test.true c.close_at-kept.ensures

pub returns : goal.returns
returns c = stands_done c.requires.usable c.loop-k.invariant (omega arith)
