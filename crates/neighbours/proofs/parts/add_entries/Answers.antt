-- `add_entries` makes one turn of the pass at a time. Assumes nothing.
use Rattle.neighbours.proofs.PartLaws.{passing_turn}
use Rattle.neighbours.proofs.parts.add_entries.Goals as goal

pub loop-k-preserved : goal.loop-k-preserved
loop-k-preserved c =
    passing_turn c.loop-k.invariant c.loop-k-test.true c.add_entry.ensures c.add_entry.auto.f
