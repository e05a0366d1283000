-- `is_zero`: no parts, and no overflow. Assumes nothing.
use mathlib.Core.Path.{◌∙◌}
use Rattle.expansion.proofs.Carrying.{zero_told}
use Rattle.expansion.proofs.is_zero.Goals as goal

pub returns : goal.returns
returns c = c.eq.ensures ∙ zero_told c.args.sum
