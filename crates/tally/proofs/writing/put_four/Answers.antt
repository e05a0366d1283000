-- `put_four` writes four totals. Assumes nothing.
use native.Mathlib.Omega.{arith}
use Rattle.tally.proofs.Texts.{each_four}
use Rattle.tally.proofs.writing.put_four.Goals as goal

pub returns : goal.returns
returns c = record { wrote = each_four _ _ _ _ c.put_total-first.ensures.wrote c.put_total-second.ensures.wrote c.put_total-third.ensures.wrote c.put_total.ensures.wrote; upper_bound = omega (arith, c.put_total-first.ensures.upper_bound, c.put_total-second.ensures.upper_bound, c.put_total-third.ensures.upper_bound, c.put_total.ensures.upper_bound) }
