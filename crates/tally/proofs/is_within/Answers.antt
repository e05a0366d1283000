-- `is_within` compares the largest total with the limit. Assumes nothing.
use Rattle.tally.specs.Tally.{is_within}
use Rattle.tally.proofs.is_within.Goals as goal

pub returns : goal.returns
unfolding is_within
returns c = rw c.largest.ensures
