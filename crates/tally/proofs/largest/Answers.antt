-- `largest` compares seven times. Assumes nothing.
use Rattle.tally.proofs.Adds.{largest_is}
use Rattle.tally.proofs.largest.Goals as goal

pub returns : goal.returns
returns c =
    rw (c.max-5.ensures, c.max-fields.ensures, c.max-variables.ensures, c.max.ensures, c.max-2.ensures, c.max-3.ensures, c.max-4.ensures)
    (largest_is c.args.t)
