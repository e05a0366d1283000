-- `is_going` asks for hope, then for each row's end. Assumes nothing.
use mathlib.Core.Path.{ap, ◌∙◌}
use mathlib.Core.Bool.{not}
use borrow.Author.Tests.{lt-ltb}
use Rattle.margins.proofs.MergeLaws.{going_no, going_left, going_right}
use Rattle.margins.proofs.walking.is_going.Goals as goal

pub returns-then-w-ea : goal.returns-then-w-ea
returns-then-w-ea c = lt-ltb _ _ c.if-w-ea.true ∙ going_left _ _ _ _ c.hopeless.ensures c.if-not-hopeless.true c.if-w-ea.true

pub returns-else-w-ea : goal.returns-else-w-ea
returns-else-w-ea c = going_right _ _ _ _ c.hopeless.ensures c.if-not-hopeless.true c.if-w-ea.false

pub returns-else-not-hopeless : goal.returns-else-not-hopeless
returns-else-not-hopeless c = ap not c.if-not-hopeless.false ∙ going_no _ _ _ _ c.hopeless.ensures c.if-not-hopeless.false
