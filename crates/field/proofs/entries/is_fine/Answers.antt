-- `is_fine` tests the row, the column, and the order. Assumes nothing.
use native.Mathlib.Omega.{arith}
use Rattle.field.proofs.Faults.{row_unfine, column_unfine, first_fine, later_fine}
use Rattle.field.proofs.entries.is_fine.Goals as goal

pub returns-then-from-n : goal.returns-then-from-n
returns-then-from-n c = row_unfine _ _ _ _ (omega (arith, c.if-from-n.true, c.from.ensures))

pub returns-then-from-n-2 : goal.returns-then-from-n-2
returns-then-from-n-2 c = column_unfine _ _ _ _ (omega (arith, c.if-from-n.false, c.from.ensures)) (omega (arith, c.if-from-n-2.true, c.from-2.ensures))

pub returns-then-k-eq0 : goal.returns-then-k-eq0
returns-then-k-eq0 c = first_fine _ _ _ _ (omega (arith, c.if-from-n.false, c.from.ensures)) (omega (arith, c.if-from-n-2.false, c.from-2.ensures)) (omega (arith, c.if-k-eq0.true))

pub returns : goal.returns
returns c = later_fine _ _ _ _ (omega (arith, c.if-from-n.false, c.from.ensures)) (omega (arith, c.if-from-n-2.false, c.from-2.ensures)) (λ z. omega (arith, c.if-k-eq0.false)) c.stands_before.ensures
