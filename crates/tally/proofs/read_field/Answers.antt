-- `read_field` counts by the grade. Assumes nothing.
use Rattle.tally.proofs.Counts.{read_exact, read_inexact}
use Rattle.tally.proofs.read_field.Goals as goal

pub returns-in-Exact : goal.returns-in-Exact
returns-in-Exact c = read_exact _ _ c.count-fates.ensures c.nothing.ensures c.in-Exact.is

pub returns-in-Inexact : goal.returns-in-Inexact
returns-in-Inexact c = read_inexact _ _ c.count-fates.ensures c.nothing.ensures c.in-Inexact.is
