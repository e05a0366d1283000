-- `solve` enumerates and puts the values of the mask that wins. Assumes nothing.
use Rattle.enumeration.proofs.Chosen.{solved_by}
use Rattle.enumeration.proofs.solve.Goals as goal

pub returns : goal.returns
returns c =
    solved_by _ _ _ _ _ c.requires.small.room c.enumerate-mask.ensures c.put.ensures
