-- `is_balanced` takes the plain sum on an exact field, and the error-free one on any other. Assumes nothing.
use Rattle.anchors.proofs.Balance.{exact_tells}
use Rattle.anchors.proofs.sums.is_balanced.Goals as goal

pub returns-in-Exact : goal.returns-in-Exact
returns-in-Exact c = exact_tells c.requires.walkable.shaped c.requires.walkable.below c.requires.grade_value c.in-Exact.is c.plain_sum.ensures
