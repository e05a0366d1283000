-- `picks` tests the one end, then the other. Assumes nothing.
use mathlib.Core.Path.{sym, ap, ◌∙◌}
use borrow.Author.Tests.{eq-eqb, ne_eqb}
use lib.Dec.{leb}
use Rattle.scratch.proofs.All.{and_yes, and_no}
use Rattle.scanning.proofs.merging.picks.Goals as goal

pub returns-then-from-i : goal.returns-then-from-i
returns-then-from-i c = and_yes (eq-eqb _ _ (sym c.from.ensures ∙ c.if-from-i.true)) (ap (leb _) c.from-then-from-i.ensures)

pub returns-else-from-i : goal.returns-else-from-i
returns-else-from-i c =
    ne_eqb _ _ c.if-from-i.false ∙ and_no _ (ne_eqb _ _ (λ e. c.if-from-i.false (c.from.ensures ∙ e)))
