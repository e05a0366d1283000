-- `add_end` stores the linear part and the mass of one variable. Assumes nothing.
use Rattle.neighbours.specs.Parts.{add_end}
use Rattle.neighbours.proofs.parts.add_end.Goals as goal

pub returns : goal.returns
unfolding add_end
returns c = rw (c.with_end-linear.ensures, c.magnitude.ensures)
