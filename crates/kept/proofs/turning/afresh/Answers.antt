-- `afresh` goes by the byte of the variable. Assumes nothing.
use mathlib.Core.Path.{sym, ap, ◌∙◌}
use Rattle.kept.specs.Kept.{plain}
use Rattle.kept.proofs.Equation.{stored_free, stored_fixed}
use Rattle.kept.proofs.turning.afresh.Goals as goal

pub returns-then-value-ne2 : goal.returns-then-value-ne2
returns-then-value-ne2 c = c.start.ensures ∙ sym (stored_fixed _ c.if-value-ne2.true)

pub returns : goal.returns
returns c = c.plain.ensures ∙ ap plain c.own_row.ensures ∙ sym (stored_free _ c.if-value-ne2.false)
