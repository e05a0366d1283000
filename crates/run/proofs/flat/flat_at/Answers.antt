-- `flat_at` tests that the variable is free, then that its row is flat. Assumes nothing.
use mathlib.Core.Path.{◌∙◌}
use borrow.Author.Tests.{eq-eqb, ne_eqb}
use Rattle.run.proofs.FlatRows.{flat_told, bit_one}
use Rattle.run.proofs.flat.flat_at.Goals as goal

pub returns-then-values-i-ne2 : goal.returns-then-values-i-ne2
returns-then-values-i-ne2 c = simp (ne_eqb _ _ c.if-values-i-ne2.true)

pub returns : goal.returns
returns c = simp (eq-eqb _ _ c.if-values-i-ne2.false, flat_told c.row_at.ensures c.judge.ensures c.is_flat-flat.ensures) (c.from.ensures ∙ bit_one _)
