-- `in_order` tests the rows, the columns, and the order. Assumes nothing.
use mathlib.Core.Path.{sym, ◌∙◌}
use Rattle.scratch.proofs.All.{and_yes, and_no}
use Rattle.field.specs.Tests.{in_order}
use Rattle.field.proofs.tests.in_order.Goals as goal

pub returns-then-not-ends_below : goal.returns-then-not-ends_below
unfolding in_order
returns-then-not-ends_below c = and_no _ (sym c.ends_below.ensures ∙ c.if-not-ends_below.true)

pub returns-then-not-ends_below-2 : goal.returns-then-not-ends_below-2
unfolding in_order
returns-then-not-ends_below-2 c = and_yes (sym c.ends_below.ensures ∙ c.if-not-ends_below.false) (and_no _ (sym c.ends_below-2.ensures ∙ c.if-not-ends_below-2.true))

pub returns : goal.returns
unfolding in_order
returns c = and_yes (sym c.ends_below.ensures ∙ c.if-not-ends_below.false) (and_yes (sym c.ends_below-2.ensures ∙ c.if-not-ends_below-2.false) c.all_rise.ensures)
