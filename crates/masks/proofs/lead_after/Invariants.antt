-- `lead_after` goes through masks of the block, rising. Assumes nothing.
use Rattle.masks.specs.Masks.{objective}
use Rattle.masks.specs.Listed.{terms_on}
use Rattle.masks.proofs.Least.{Leading}
use Rattle.masks.proofs.lead_after.Given as goal

abbrev pub invariant-loop-l : goal.invariant-loop-l
invariant-loop-l l = Leading (objective (terms_on l.values l.required l.end)) l.base l.count l.l l.best.sum l.best.mask
