-- `work` sorts, gathers and counts. Assumes nothing.
use Rattle.mend.proofs.Laws.{works}
use Rattle.mend.proofs.work.Goals as goal

pub returns : goal.returns
returns c =
    works c.line_up.ensures c.gather-kept.ensures c.count-changes.ensures
