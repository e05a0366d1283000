-- `block` goes through the terms, rising. Assumes nothing.
use mathlib.Core.Path.{refl}
use Rattle.masks.proofs.Summing.{sum_start, sum_turn}
use Rattle.masks.proofs.block.Goals as goal

pub loop-t-init : goal.loop-t-init
loop-t-init c = sum_start c.requires.room c.requires.base_bound c.requires.base_value

pub loop-t-preserved : goal.loop-t-preserved
loop-t-preserved c = sum_turn c.loop-t.invariant c.loop-t-test.true c.from.ensures refl c.add_block.ensures
