-- `add_entries` makes one turn of the pass at a time. Assumes nothing.
use Rattle.rows.proofs.Pass.{pass_start, pass_turn, pass_done, ready_after}
use Rattle.single.proofs.Set.{fillable_set, fillable_unset}
use borrow.Author.Rules.{rules}
use Rattle.single.proofs.making.add_entries.Goals as goal

pub loop-k-init : goal.loop-k-init
loop-k-init c = pass_start (fillable_set _ _ c.requires.fillable) c.requires.by_index

pub add_entry-requires : goal.add_entry-requires
add_entry-requires c = record { fillable = fillable_unset _ _ (ready_after c.loop-k.invariant.ready c.loop-k.invariant.written); k_bound = search rules }

pub loop-k-preserved : goal.loop-k-preserved
loop-k-preserved c = pass_turn c.loop-k.invariant c.loop-k-test.true c.add_entry.ensures

pub shape_of-f : goal.shape_of-f
shape_of-f c = c.loop-k.invariant.written.long

pub returns : goal.returns
returns c = pass_done c.loop-k.invariant c.loop-k-test.false
