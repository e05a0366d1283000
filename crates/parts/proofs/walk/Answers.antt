-- `walk` visits the start, then pops until the stack is empty. Assumes nothing.
use Rattle.parts.proofs.Turns.{walk_done}
use Rattle.parts.proofs.walk.Goals as goal

pub returns : goal.returns
returns c = walk_done c.visit-top.ensures c.pop_all.ensures
