-- `close_at` adds half of a diagonal entry to c, or moves the entry up. Assumes nothing.
use Rattle.shift.proofs.Turns.{goes_in, moves_up}
use Rattle.shift.proofs.close_at.Goals as goal

pub returns-then-r-from : goal.returns-then-r-from
returns-then-r-from c =
    goes_in _ _ _ _ _ _ c.from-r.ensures c.from.ensures c.if-r-from.true c.half.ensures

pub returns : goal.returns
returns c =
    moves_up _ _ _ _ _ _ c.from-r.ensures c.from.ensures c.if-r-from.false
