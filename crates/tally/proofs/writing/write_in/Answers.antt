-- `write_in` writes the ending and the line. Assumes nothing.
use native.Mathlib.Omega.{arith}
use Rattle.tally.proofs.Texts.{tally_written}
use Rattle.tally.proofs.writing.write_in.Goals as goal

pub returns : goal.returns
returns c = tally_written _ _ c.put_ending-at.ensures.wrote c.put_line.ensures.wrote (omega (arith, c.requires.in_bounds, c.put_ending-at.ensures.upper_bound, c.put_line.ensures.upper_bound))
