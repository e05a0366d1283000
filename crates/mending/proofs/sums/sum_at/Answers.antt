-- `sum_at` takes one entry a turn. Assumes nothing.
use mathlib.Core.Path.{◌∙◌}
use native.Mathlib.Omega.{arith}
use Rattle.mending.proofs.Tested.{part_start, part_turn, part_done}
use Rattle.mending.proofs.sums.sum_at.Goals as goal

pub loop-k-init : goal.loop-k-init
loop-k-init c = (omega arith, part_start _ _)

pub part_with-part-requires : goal.part_with-part-requires
part_with-part-requires c = record { listed = c.requires; k_bound = c.loop-k-test.true }

pub loop-k-preserved : goal.loop-k-preserved
loop-k-preserved c = (omega arith, part_turn _ _ _ c.loop-k.invariant.1 c.part_with-part.ensures)

pub returns : goal.returns
returns c = c.unwrap_or.ensures ∙ part_done _ _ _ c.loop-k.invariant.1 (omega arith)
