-- `hopeless` asks for the sum, then for the difference. Assumes nothing.
use mathlib.Core.Path.{sym, ◌∙◌}
use Rattle.scratch.proofs.All.{and_yes, and_no}
use Rattle.margins.specs.Model.{hopeless}
use Rattle.margins.proofs.bounds.hopeless.Goals as goal

pub returns-then-between : goal.returns-then-between
unfolding hopeless
returns-then-between c = and_yes (sym c.between.ensures ∙ c.if-between.true) c.between-then-between.ensures

pub returns-else-between : goal.returns-else-between
unfolding hopeless
returns-else-between c = c.if-between.false ∙ and_no _ (sym c.between.ensures ∙ c.if-between.false)
