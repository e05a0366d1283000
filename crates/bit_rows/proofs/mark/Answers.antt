-- `mark` sets one word. Assumes nothing.
use Prim.Native.Nat.{◌%◌}
use native.Mathlib.Omega.{arith}
use Rattle.bit_rows.proofs.Bits.{shifted_one}
use Rattle.bit_rows.proofs.Rows.{mark_bits}
use Rattle.bit_rows.proofs.mark.Goals as goal

pub returns : goal.returns
returns c =
    let at = c.args in
    rw (shifted_one (at.b % 64) (omega arith)) (mark_bits at.w.now at.a at.b (omega arith) (omega arith))
