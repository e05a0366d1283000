-- `block` goes through the terms, rising. Assumes nothing.
use Rattle.masks.proofs.Summing.{Summing}
use Rattle.masks.proofs.block.Given as goal

abbrev pub invariant-loop-t : goal.invariant-loop-t
invariant-loop-t l = Summing l.values l.required l.end l.base l.sums l.t
