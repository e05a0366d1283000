-- `weigh_at` adds |q| off the diagonal. Assumes nothing.
use Rattle.anchors.proofs.Summing.{weighs_diagonal, weighs_some, weighs_none}
use Rattle.anchors.proofs.sums.weigh_at.Goals as goal
use Rattle.anchors.proofs.sums.weigh_at.Goals.{else-field-k-via-then-field-k+else-entry, else-field-k-via-else-field-k}

pub returns-then-entry : goal.returns-then-entry
returns-then-entry c = weighs_some _ _ _ c.if-field-k.true c.if-entry.true c.magnitude.ensures

pub returns-else-field-k : goal.returns-else-field-k
returns-else-field-k c = elim c.else-field-k.branch [
  | else-field-k-via-then-field-k+else-entry w ↦ weighs_none _ _ _ w.if-field-k.true w.if-entry.false
  | else-field-k-via-else-field-k w ↦ weighs_diagonal _ _ _ w.if-field-k.false
]
