-- `bar` marks two arrows. Assumes nothing.
use Rattle.arrows.proofs.Marks.{bar_done}
use Rattle.arrows.proofs.bar.Goals as goal

pub returns : goal.returns
returns c = bar_done _ _ _ _ c.mark.ensures c.mark-2.ensures
