-- `bytes_small` tests one byte a turn. Assumes nothing.
use mathlib.Core.Path.{refl}
use Rattle.field.specs.Tests.{bytes_small}
use Rattle.scratch.proofs.All.{testing_start, testing_turn, testing_done}
use borrow.Author.Rules.{rules}
use Rattle.field.proofs.entries.bytes_small.Goals as goal

pub loop-byte-init : goal.loop-byte-init
loop-byte-init c = testing_start _ _

pub loop-byte-preserved : goal.loop-byte-preserved
loop-byte-preserved c = testing_turn _ c.loop-byte.invariant (search rules) refl

pub returns : goal.returns
unfolding bytes_small
returns c = testing_done _ c.loop-byte.invariant (search rules)
