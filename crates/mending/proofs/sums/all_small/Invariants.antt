-- `all_small` tests one weight a turn. Assumes nothing.
use lib.ListN.{length, get_or}
use lib.Ieee.{nan, le}
use Rattle.weights.specs.Worth.{magnitude}
use Rattle.scratch.specs.All.{Testing}
use Rattle.mending.specs.Sums.{limit64}
use Rattle.mending.proofs.sums.all_small.Given as goal

abbrev pub invariant-loop-w : goal.invariant-loop-w
invariant-loop-w l = Testing (λ j. le (magnitude (get_or l.q j nan)) limit64) (length l.q) l.w-index l.small
