-- `is_left` asks for the limit, then for the pair. Assumes nothing.
use mathlib.Core.Path.{refl, ◌∙◌}
use borrow.Author.Tests.{lt-ltb, le-ltb}
use Rattle.scratch.proofs.All.{and_yes, and_no}
use Rattle.pairs.specs.Walk.{is_left}
use Rattle.pairs.proofs.listing.is_left.Goals as goal

pub returns-then-pairs-most : goal.returns-then-pairs-most
unfolding is_left
returns-then-pairs-most c = and_yes (lt-ltb _ _ c.if-pairs-most.true) refl

pub returns-else-pairs-most : goal.returns-else-pairs-most
unfolding is_left
returns-else-pairs-most c = le-ltb _ _ c.if-pairs-most.false ∙ and_no _ (le-ltb _ _ c.if-pairs-most.false)
