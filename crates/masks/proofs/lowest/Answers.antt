-- `lowest` goes through the blocks, rising, and then through what is left. Assumes nothing.
use lib.Ieee.{nan_bits}
use Rattle.masks.proofs.Least.{walk_start}
use Rattle.masks.proofs.lowest.Goals as goal

pub float_from_bits-lead : goal.float_from_bits-lead
unfolding nan_bits
float_from_bits-lead c = tt

pub loop-b-init : goal.loop-b-init
loop-b-init c = walk_start
