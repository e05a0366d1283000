-- `begin` stores one row a turn. Assumes nothing.
use Rattle.rows.proofs.Stored.{written_none, written_put, written_fewer}
use Rattle.single.proofs.making.begin.Goals as goal

pub loop-t-init : goal.loop-t-init
loop-t-init c = written_none _

pub loop-t-preserved : goal.loop-t-preserved
loop-t-preserved c = written_put c.loop-t.invariant c.loop-t-test.true c.requires c.start.ensures c.put_row.ensures

pub shape_of-f : goal.shape_of-f
shape_of-f c = c.loop-t.invariant.long

pub returns : goal.returns
returns c = written_fewer c.loop-t.invariant c.loop-t-test.false
