-- `is_exact` compares the grade. Assumes nothing.
use Rattle.kept.proofs.Coded.{told_exact}
use Rattle.kept.proofs.making.is_exact.Goals as goal

pub returns : goal.returns
returns c = told_exact _ c.graded.ensures c.eq.ensures
