-- `sums_finite` asks entry by entry where a weight is not small. Assumes nothing.
use mathlib.Core.Path.{sym, ◌∙◌}
use Rattle.mending.proofs.Tested.{each_is, small_is}
use Rattle.mending.proofs.sums.sums_finite.Goals as goal

pub returns-then-all_small : goal.returns-then-all_small
returns-then-all_small c = small_is _ c.requires (sym c.all_small.ensures ∙ c.if-all_small.true)

pub returns : goal.returns
returns c = c.each_finite.ensures ∙ each_is _
