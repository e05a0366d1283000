-- `shorts_below` tests one end a turn. Assumes nothing.
use mathlib.Core.Path.{refl}
use Rattle.field.specs.Tests.{ends_below}
use Rattle.scratch.proofs.All.{testing_start, testing_turn, testing_done}
use borrow.Author.Rules.{rules}
use Rattle.field.proofs.entries.shorts_below.Goals as goal

pub loop-end-init : goal.loop-end-init
loop-end-init c = testing_start _ _

pub loop-end-preserved : goal.loop-end-preserved
loop-end-preserved c = testing_turn _ c.loop-end.invariant (search rules) refl

pub returns : goal.returns
unfolding ends_below
returns c = testing_done _ c.loop-end.invariant (search rules)
