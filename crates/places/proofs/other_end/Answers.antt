-- `other_end` reads both ends of the entry. Assumes nothing.
use mathlib.Core.Path.{sym, ◌∙◌}
use Rattle.places.proofs.Places.{other_column, other_row}
use Rattle.places.proofs.other_end.Goals as goal

pub returns-then-r-i : goal.returns-then-r-i
returns-then-r-i c = c.from-c.ensures ∙ sym (other_column _ _ _ _ (sym c.from-r.ensures ∙ c.if-r-i.true))

pub returns-else-r-i : goal.returns-else-r-i
returns-else-r-i c = c.from-r.ensures ∙ sym (other_row _ _ _ _ (λ q. c.if-r-i.false (c.from-r.ensures ∙ q)))
