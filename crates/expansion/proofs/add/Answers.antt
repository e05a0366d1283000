-- `add` carries a finite number through the parts. Assumes nothing.
use mathlib.Core.Path.{sym, ◌∙◌}
use Rattle.expansion.proofs.Carrying.{add_carries, add_overflows, add_stays}
use Rattle.expansion.proofs.add.Goals as goal

pub returns-in_err-count : goal.returns-in_err-count
returns-in_err-count c = rw c.from_residual.ensures (add_stays c.in_err-count.was)

pub returns-then-is_finite : goal.returns-then-is_finite
returns-then-is_finite c = add_carries c.in_ok-count.was (sym c.is_finite.ensures ∙ c.if-is_finite.true) c.carry.ensures

pub returns : goal.returns
returns c = add_overflows c.in_ok-count.was (sym c.is_finite.ensures ∙ c.if-is_finite.false)
