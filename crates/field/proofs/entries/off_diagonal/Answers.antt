-- `off_diagonal` tests one entry a turn. Assumes nothing.
use mathlib.Core.Path.{refl}
use Rattle.field.specs.Tests.{off_diagonal}
use Rattle.scratch.proofs.All.{testing_start, testing_turn, testing_done}
use borrow.Author.Rules.{rules}
use Rattle.field.proofs.entries.off_diagonal.Goals as goal

pub loop-k-init : goal.loop-k-init
loop-k-init c = testing_start _ _

pub loop-k-preserved : goal.loop-k-preserved
loop-k-preserved c = testing_turn _ c.loop-k.invariant (search rules) refl

pub returns : goal.returns
unfolding off_diagonal
returns c = testing_done _ c.loop-k.invariant (search rules)
