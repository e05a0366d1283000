-- `put_line` writes eight totals, the rate and a newline. Assumes nothing.
use native.Mathlib.Omega.{arith}
use Rattle.tally.proofs.Texts.{line_written}
use Rattle.tally.proofs.writing.put_line.Goals as goal

pub returns : goal.returns
returns c = record { wrote = line_written c.args.t c.put_four-fields.ensures.wrote c.put_four-variables.ensures.wrote c.put_rate-rate.ensures.wrote c.put_bytes.ensures; upper_bound = omega (arith, c.put_four-fields.ensures.upper_bound, c.put_four-variables.ensures.upper_bound, c.put_rate-rate.ensures.upper_bound, c.put_bytes.ensures.next) }
