-- `step` joins where the bit is set. Assumes nothing.
use mathlib.Core.Path.{sym, ◌∙◌}
use Rattle.bit_rows.proofs.Stages.{step_joined, step_left}
use Rattle.bit_rows.proofs.step.Goals as goal

pub returns-then-has : goal.returns-then-has
returns-then-has c = step_joined _ _ (sym c.has.ensures ∙ c.if-has.true) c.join.ensures

pub returns-else-has : goal.returns-else-has
returns-else-has c = step_left _ _ (sym c.has.ensures ∙ c.if-has.false)
