-- `stands_at` compares both ends. Assumes nothing.
use Rattle.enumeration.proofs.Sought.{stands_by, stands_not}
use Rattle.enumeration.proofs.pairs.stands_at.Goals as goal

pub returns-then-from-i : goal.returns-then-from-i
returns-then-from-i c = stands_by _ _ _ _ _ c.from.ensures c.if-from-i.true c.from-then-from-i.ensures

pub returns-else-from-i : goal.returns-else-from-i
returns-else-from-i c = stands_not _ _ _ _ _ c.from.ensures c.if-from-i.false
