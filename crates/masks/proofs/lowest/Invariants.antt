-- `lowest` goes through the blocks, rising, and then through what is left. Assumes nothing.
use Rattle.masks.specs.Masks.{objective}
use Rattle.masks.specs.Listed.{terms_on}
use Rattle.masks.proofs.Least.{Walking}
use Rattle.masks.proofs.lowest.Given as goal

abbrev pub invariant-loop-b : goal.invariant-loop-b
invariant-loop-b l = Walking (objective (terms_on l.values l.required l.end)) l.size l.b l.lead
