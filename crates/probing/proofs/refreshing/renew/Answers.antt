-- `renew` moves the terms on an exact field, and makes rows afresh on any other. Assumes nothing.
use Rattle.probing.proofs.Moving.{by_moves, by_fresh}
use Rattle.probing.proofs.refreshing.renew.Goals as goal

pub returns-in-Exact : goal.returns-in-Exact
returns-in-Exact c = by_moves c.requires.grade_value c.in-Exact.is _ _ c.move_terms.ensures

pub returns-in-Inexact : goal.returns-in-Inexact
returns-in-Inexact c = by_fresh c.requires.grade_value c.in-Inexact.is _ _ c.refresh.ensures
