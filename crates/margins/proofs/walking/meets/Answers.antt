-- `meets` asks for one weight, then for the other. Assumes nothing.
use mathlib.Core.Path.{◌∙◌}
use Rattle.margins.proofs.MergeLaws.{meets_first, meets_second}
use Rattle.margins.proofs.walking.meets.Goals as goal

pub returns-then-wi : goal.returns-then-wi
returns-then-wi c = c.if-wi.true ∙ meets_first _ _ c.if-wi.true

pub returns-else-wi : goal.returns-else-wi
returns-else-wi c = meets_second _ _ c.if-wi.false
