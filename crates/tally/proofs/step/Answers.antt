-- `step` adds what it meets. Assumes nothing.
use mathlib.Core.Path.{sym, ap, subst, ◌∙◌}
use Rattle.tally.specs.Tally.{added, stepped}
use Rattle.tally.specs.Counting.{SmallMet}
use Rattle.tally.proofs.Counts.{met_small}
use Rattle.tally.proofs.step.Goals as goal

pub add-requires : goal.add-requires
add-requires c = record { small = c.requires.small; small_met = subst SmallMet (sym c.meet-found.ensures.met) (met_small _) }

pub returns : goal.returns
unfolding stepped
returns c = record { stepped = c.add.ensures ∙ ap (added _ _) c.meet-found.ensures.met; kept = c.meet-found.ensures.kept }
