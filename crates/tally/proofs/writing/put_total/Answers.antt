-- `put_total` writes seventeen bytes at most. Assumes nothing.
use native.Mathlib.Omega.{arith}
use Rattle.text.proofs.Writes.{wrote_then}
use Rattle.tally.proofs.Texts.{total_short}
use Rattle.tally.proofs.writing.put_total.Goals as goal

pub put_decimal-next-requires : goal.put_decimal-next-requires
put_decimal-next-requires c = omega (arith, c.requires.at_in_bounds, total_short c.args.n c.requires.n_bound)

pub put_bytes-requires : goal.put_bytes-requires
put_bytes-requires c = omega (arith, c.requires.at_in_bounds, c.put_decimal-next.ensures.next, c.put_decimal-next.auto.out, total_short c.args.n c.requires.n_bound)

pub returns : goal.returns
returns c = record { wrote = wrote_then c.put_decimal-next.ensures c.put_bytes.ensures; upper_bound = omega (arith, c.put_decimal-next.ensures.next, c.put_bytes.ensures.next, total_short c.args.n c.requires.n_bound) }
