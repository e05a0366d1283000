-- `contradicts` asks two bits. Assumes nothing.
use mathlib.Core.Path.{◌∙◌}
use Rattle.allow.proofs.Choosing.{both_yes, both_not}
use Rattle.allow.proofs.reading.contradicts.Goals as goal

pub returns-then-has : goal.returns-then-has
returns-then-has c = both_yes _ _ c.has.ensures c.if-has.true c.has-then-has.ensures

pub returns-else-has : goal.returns-else-has
returns-else-has c = c.if-has.false ∙ both_not _ _ c.has.ensures c.if-has.false
