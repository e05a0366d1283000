-- `bar_if` marks where the bit is set. Assumes nothing.
use mathlib.Core.Path.{◌≡◌}
use Prim.Native.Nat.{◌/◌, ◌%◌, ◌^◌}
use native.Mathlib.Nat.{mod-lt}
use native.Mathlib.Omega.{arith}
use lib.Bits.{and_mask}
use Rattle.arrows.proofs.Marks.{bar_out}
use Rattle.arrows.proofs.bar_if.Goals as goal

pub returns-else-set-at-eq1 : goal.returns-else-set-at-eq1
returns-else-set-at-eq1 c =
    let bit = c.args.set / 2 ^ c.args.at in
    let none : bit % 2 ≡ 0 = omega (arith, mod-lt bit {m = 2} (omega arith), and_mask bit 1, c.if-set-at-eq1.false) in
    bar_out _ _ _ _ none
