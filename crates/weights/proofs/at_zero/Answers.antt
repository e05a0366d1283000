-- `weights::at_zero` meets its contract. Assumes nothing.
use Rattle.weights.proofs.PatternLaws.{at_none, at_some}
use Rattle.weights.proofs.at_zero.Goals as goal

pub returns-then-b-eq0 : goal.returns-then-b-eq0
returns-then-b-eq0 c = at_none _ c.if-b-eq0.true

pub returns-else-b-eq0 : goal.returns-else-b-eq0
returns-else-b-eq0 c = at_some _ c.if-b-eq0.false
