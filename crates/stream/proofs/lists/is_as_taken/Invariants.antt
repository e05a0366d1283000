-- `is_as_taken` tests one element a turn. Assumes nothing.
use lib.ListN.{length, get_or}
use Rattle.scratch.specs.All.{Passing}
use Rattle.stream.proofs.lists.is_as_taken.Given as goal

abbrev pub invariant-loop-i : goal.invariant-loop-i
invariant-loop-i g l = let e = g.T.Element in Passing (λ j. e.same (get_or l.list j e.past) (e.value_at l.bytes l.at j)) (length l.list) l.i
