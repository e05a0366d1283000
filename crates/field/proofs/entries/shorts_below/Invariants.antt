-- `shorts_below` tests one end a turn. Assumes nothing.
use lib.Dec.{ltb}
use lib.ListN.{length, get_or}
use Rattle.scratch.specs.All.{Testing}
use Rattle.field.proofs.entries.shorts_below.Given as goal

abbrev pub invariant-loop-end : goal.invariant-loop-end
invariant-loop-end l = Testing (λ j. ltb (get_or l.ends j 0) l.top) (length l.ends) l.end-index l.below
