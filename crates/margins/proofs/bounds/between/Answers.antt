-- `between` asks for the low bound, then for the high one. Assumes nothing.
use mathlib.Core.Path.{refl, ◌∙◌}
use Rattle.scratch.proofs.All.{and_yes, and_no}
use Rattle.margins.specs.Model.{between}
use Rattle.margins.proofs.bounds.between.Goals as goal

pub returns-then-low-t : goal.returns-then-low-t
unfolding between
returns-then-low-t c = and_yes c.if-low-t.true refl

pub returns-else-low-t : goal.returns-else-low-t
unfolding between
returns-else-low-t c = c.if-low-t.false ∙ and_no _ c.if-low-t.false
