-- `widened` adds to each of the four bounds. Assumes nothing.
use Rattle.margins.proofs.MergeLaws.{widen_is}
use Rattle.margins.proofs.bounds.Bounds.widened.Goals as goal

pub returns : goal.returns
returns c =
    widen_is _ _ _ _ _ _ _ c.below_zero.ensures c.above_zero.ensures c.below_zero-2.ensures c.above_zero-2.ensures
