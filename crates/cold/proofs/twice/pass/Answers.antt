-- `pass` takes one variable a turn. Assumes nothing.
use Rattle.cold.proofs.Passed.{passing_start, passing_long, passing_asks, passing_turn, passing_done}
use Rattle.cold.proofs.twice.pass.Goals as goal

pub loop-j-init : goal.loop-j-init
loop-j-init c = passing_start c.requires

pub emit-last-requires : goal.emit-last-requires
emit-last-requires c = let both = passing_asks c.loop-j.invariant c.loop-j-test.true in
    record { emits = both.0; end_in_bounds = both.1 }

pub loop-j-preserved : goal.loop-j-preserved
loop-j-preserved c = passing_turn c.loop-j.invariant c.loop-j-test.true c.emit-last.ensures

pub shape_of-u : goal.shape_of-u
shape_of-u c = passing_long c.loop-j.invariant

pub returns : goal.returns
returns c = passing_done c.loop-j.invariant c.loop-j-test.false
