-- `choice` asks two bits. Assumes nothing.
use Rattle.allow.proofs.Choosing.{wants_own, wants_last}
use Rattle.allow.proofs.reading.choice.Goals as goal

pub returns-then-has : goal.returns-then-has
returns-then-has c = wants_own _ _ _ c.has.ensures c.if-has.true

pub returns-else-has : goal.returns-else-has
returns-else-has c = wants_last _ _ _ c.has.ensures c.if-has.false c.has-else-has.ensures
