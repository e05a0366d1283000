-- `merge` lays both lists where there is room for them. Assumes nothing.
use lib.ListN.{length}
use Rattle.found.specs.Joint.{joint}
use Rattle.found.proofs.Settled.{settled_full, settled_holds}
use Rattle.found.proofs.merging.merge.Goals as goal

pub returns-then-total-list : goal.returns-then-total-list
returns-then-total-list c =
    let a = c.args in
    settled_full (joint a.held 0 (length a.keys.now) a.list.now a.keys.now) a.list.now a.keys.now c.count-total.ensures c.if-total-list.true

pub returns : goal.returns
returns c =
    let a = c.args in
    settled_holds (joint a.held 0 (length a.keys.now) a.list.now a.keys.now) a.list.now a.keys.now c.count-total.ensures c.if-total-list.false c.lay.ensures
