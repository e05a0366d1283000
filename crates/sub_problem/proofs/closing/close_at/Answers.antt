-- `close_at` passes over an entry with a given end, and moves up any other. Assumes nothing.
use native.Mathlib.Omega.{arith}
use Rattle.sub_problem.proofs.NumberLoops.{stored_new, stored_small}
use Rattle.sub_problem.proofs.CloseLoops.{row_given, column_given, moves_up}
use Rattle.sub_problem.proofs.closing.close_at.Goals as goal

pub returns-then-start-i-ne2 : goal.returns-then-start-i-ne2
returns-then-start-i-ne2 c = row_given _ _ _ _ _ _ c.from-i.ensures c.if-start-i-ne2.true

pub returns-then-start-j-ne2 : goal.returns-then-start-j-ne2
returns-then-start-j-ne2 c =
    column_given _ _ _ _ _ _ c.from-i.ensures c.from-j.ensures c.if-start-i-ne2.false c.if-start-j-ne2.true

pub overflow_cast-rows : goal.overflow_cast-rows
overflow_cast-rows c =
    omega (arith, stored_small c.requires.numbers c.from-i.ensures c.requires.closable.row_below)

pub overflow_cast-cols : goal.overflow_cast-cols
overflow_cast-cols c =
    omega (arith, stored_small c.requires.numbers c.from-j.ensures c.requires.closable.column_below)

pub returns : goal.returns
returns c =
    moves_up _ _ _ _ _ _ c.from-i.ensures c.from-j.ensures c.if-start-i-ne2.false c.if-start-j-ne2.false
    (stored_new c.requires.numbers c.from-i.ensures c.requires.closable.row_below)
    (stored_new c.requires.numbers c.from-j.ensures c.requires.closable.column_below)
