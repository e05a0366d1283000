-- `lead_after` goes through masks of the block, rising. Assumes nothing.
use Rattle.masks.proofs.Least.{lead_taken, lead_kept}
use Rattle.masks.proofs.lead_after.Goals as goal
use Rattle.masks.proofs.lead_after.Goals.{then-sum-best, else-sum-best}

pub loop-l-preserved : goal.loop-l-preserved
loop-l-preserved c =
    let L = c.loop-l.invariant in
    let h = c.loop-l-test.true in
    let few = c.requires.count_bound in
    let B = c.block-sums.ensures in
    elim c.if-sum-best.branch [
      | then-sum-best w ↦ rw w.best-is (lead_taken L h few B w.if-sum-best.true)
      | else-sum-best w ↦ rw w.best-is (lead_kept L h few B w.if-sum-best.false)
    ]
