-- `all_finite` tests one weight a turn. Assumes nothing.
use Rattle.field.specs.Tests.{all_finite}
use Rattle.scratch.proofs.All.{testing_start, testing_turn, testing_done}
use borrow.Author.Rules.{rules}
use Rattle.field.proofs.weighs.all_finite.Goals as goal

pub loop-x-init : goal.loop-x-init
loop-x-init c = testing_start _ _

pub loop-x-preserved : goal.loop-x-preserved
loop-x-preserved c = testing_turn _ c.loop-x.invariant (search rules) c.is_finite-fine.ensures

pub returns : goal.returns
unfolding all_finite
returns c = testing_done _ c.loop-x.invariant (search rules)
