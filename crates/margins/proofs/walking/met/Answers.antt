-- `met` passes over i, over j, and over what weighs nothing at both. Assumes nothing.
use Rattle.margins.proofs.MergeLaws.{met_i, met_j, met_other, met_none}
use Rattle.margins.proofs.walking.met.Goals as goal
use Rattle.margins.proofs.walking.met.Goals.{else-k-i-via-then-k-i+then-k-j+else-meets, else-k-i-via-then-k-i+else-k-j, else-k-i-via-else-k-i}

pub returns-then-meets : goal.returns-then-meets
returns-then-meets c = met_other _ _ _ _ _ _ _ c.if-k-i.true c.if-k-j.true c.meets.ensures c.if-meets.true c.widened.ensures

pub returns-else-k-i : goal.returns-else-k-i
returns-else-k-i c = elim c.else-k-i.branch [
  | else-k-i-via-then-k-i+then-k-j+else-meets w ↦ met_none _ _ _ _ _ _ w.if-k-i.true w.if-k-j.true w.meets.ensures w.if-meets.false
  | else-k-i-via-then-k-i+else-k-j w ↦ met_j _ _ _ _ _ _ w.if-k-i.true w.if-k-j.false
  | else-k-i-via-else-k-i w ↦ met_i _ _ _ _ _ _ w.if-k-i.false
]
