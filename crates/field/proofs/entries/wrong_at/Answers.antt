-- `wrong_at` tests the row, the column, and the place of the entry before. Assumes nothing.
use mathlib.Core.Path.{sym}
use native.Mathlib.Omega.{arith}
use Rattle.field.proofs.Faults.{later, wrong_row, wrong_column, wrong_repeat, wrong_order}
use Rattle.field.proofs.entries.wrong_at.Goals as goal

pub returns-then-from-n : goal.returns-then-from-n
returns-then-from-n c = sym (wrong_row _ _ _ _ (omega (arith, c.if-from-n.true, c.from.ensures)))

pub returns-then-from-n-2 : goal.returns-then-from-n-2
returns-then-from-n-2 c = sym (wrong_column _ _ _ _ (omega (arith, c.if-from-n.false, c.from.ensures)) (omega (arith, c.if-from-n-2.true, c.from-2.ensures)))

pub overflow_sub-last : goal.overflow_sub-last
overflow_sub-last c = later _ _ _ _ c.requires.k_value (omega (arith, c.if-from-n.false, c.from.ensures)) (omega (arith, c.if-from-n-2.false, c.from-2.ensures))

pub returns-then-rows-k : goal.returns-then-rows-k
returns-then-rows-k c = sym (wrong_order _ _ _ _ (omega (arith, c.if-from-n.false, c.from.ensures)) (omega (arith, c.if-from-n-2.false, c.from-2.ensures)) (λ a b. omega (arith, c.if-rows-k.true)))

pub returns-then-cols-k : goal.returns-then-cols-k
returns-then-cols-k c = sym (wrong_order _ _ _ _ (omega (arith, c.if-from-n.false, c.from.ensures)) (omega (arith, c.if-from-n-2.false, c.from-2.ensures)) (λ a b. omega (arith, c.if-cols-k.true)))

pub returns : goal.returns
returns c = sym (wrong_repeat _ _ _ _ (omega (arith, c.if-from-n.false, c.from.ensures)) (omega (arith, c.if-from-n-2.false, c.from-2.ensures)) (omega (arith, c.if-rows-k.false)) (omega (arith, c.if-cols-k.false)))
