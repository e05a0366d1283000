-- `add_entries` makes one turn of the pass at a time. Assumes nothing.
use Rattle.rows.proofs.Pass.{pass_start, pass_turn, pass_done}
use Rattle.rows.proofs.fill.add_entries.Goals as goal

pub loop-k-init : goal.loop-k-init
loop-k-init c = pass_start c.requires.fillable c.requires.by_index

pub loop-k-preserved : goal.loop-k-preserved
loop-k-preserved c = pass_turn c.loop-k.invariant c.loop-k-test.true c.add_entry.ensures

pub returns : goal.returns
returns c = pass_done c.loop-k.invariant c.loop-k-test.false
