-- `put_number` writes three digits at most. Assumes nothing.
use native.Mathlib.Omega.{arith}
use Rattle.text.proofs.Writes.{decimal_short}
use Rattle.text.proofs.put_number.Goals as goal

pub put_decimal-requires : goal.put_decimal-requires
put_decimal-requires c = omega (arith, c.requires, decimal_short 2 c.args.n (omega (arith, c.requires.n_bound)))

pub returns : goal.returns
returns c = record { wrote = c.put_decimal.ensures; upper_bound = omega (arith, c.put_decimal.ensures.next, decimal_short 2 c.args.n (omega (arith, c.requires.n_bound))) }
