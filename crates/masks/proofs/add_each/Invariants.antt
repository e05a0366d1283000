-- `add_each` goes through the masks of a block, rising. Assumes nothing.
use Rattle.masks.proofs.Summing.{Turned}
use Rattle.masks.proofs.add_each.Given as goal

abbrev pub invariant-loop-l : goal.invariant-loop-l
invariant-loop-l l = Turned l.bits l.value l.initial.sums l.sums l.l
