-- `bar_set` goes over four bits. Assumes nothing.
use Rattle.arrows.proofs.Marks.{set_done}
use Rattle.arrows.proofs.bar_set.Goals as goal

pub returns : goal.returns
returns c =
    set_done _ _ _ c.bar_if.ensures c.bar_if-2.ensures c.bar_if-3.ensures c.bar_if-4.ensures
