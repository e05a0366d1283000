-- The digits of a usize lie within the 20 bytes that are lent for them. Assumes nothing.
use mathlib.Core.Path.{sym}
use native.Mathlib.Omega.{arith}
use lib.Seq.{length-take-le}
use Rattle.text.proofs.Writes.{decimal_short}
use Rattle.stream.proofs.output.Output.put_number.Goals as goal

pub put_decimal-k-requires : goal.put_decimal-k-requires
put_decimal-k-requires c = omega (arith, decimal_short 19 c.args.n (omega arith))

pub slice_bounds-digits-end : goal.slice_bounds-digits-end
slice_bounds-digits-end c = omega (arith, c.put_decimal-k.ensures.next, decimal_short 19 c.args.n (omega arith), c.put_decimal-k.auto.out)

pub slice_bounds-put_text-end : goal.slice_bounds-put_text-end
slice_bounds-put_text-end c =
    sym (length-take-le _ _ (omega (arith, c.put_decimal-k.ensures.next, decimal_short 19 c.args.n (omega arith), c.put_decimal-k.auto.out)))
