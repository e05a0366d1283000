-- `all_rise` tests one entry against the one before a turn. Assumes nothing.
use Prim.Native.Nat.{◌-◌}
use Rattle.field.specs.Tests.{all_rise}
use Rattle.scratch.proofs.All.{testing_start, testing_done}
use Rattle.field.proofs.Means.{rise_turn}
use borrow.Author.Rules.{rules}
use Rattle.field.proofs.entries.all_rise.Goals as goal

pub loop-k-init : goal.loop-k-init
loop-k-init c = testing_start _ _

pub loop-k-preserved : goal.loop-k-preserved
loop-k-preserved c = rise_turn c.args.rows.now c.args.cols.now (c.loop-k.k - 1) (search rules) c.loop-k.invariant (search rules) c.stands_before-rise.ensures

pub returns : goal.returns
unfolding all_rise
returns c = testing_done _ c.loop-k.invariant (search rules)
