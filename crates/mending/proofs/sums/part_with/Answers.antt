-- `part_with` takes the entry at the place. Assumes nothing.
use mathlib.Core.Path.{sym, ◌∙◌}
use Rattle.mending.proofs.Tested.{part_other, part_more, part_first}
use Rattle.mending.proofs.sums.part_with.Goals as goal

pub place_at-requires : goal.place_at-requires
place_at-requires c = record { listed = c.requires.listed; k_bound = c.requires.k_bound }

pub returns-then-place_at-p : goal.returns-then-place_at-p
returns-then-place_at-p c = part_other _ _ _ (λ e. c.if-place_at-p.true (c.place_at.ensures ∙ e))

pub returns-in-Some : goal.returns-in-Some
returns-in-Some c = part_more _ _ _ (sym c.place_at.ensures ∙ c.if-place_at-p.false) c.in-Some.is

pub returns-in-None : goal.returns-in-None
returns-in-None c = part_first _ _ _ (sym c.place_at.ensures ∙ c.if-place_at-p.false) c.in-None.is
