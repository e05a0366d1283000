-- `put_end` writes a word, a number and a newline. Assumes nothing.
use native.Mathlib.Omega.{arith}
use Rattle.text.specs.Text.{end_line}
use Rattle.text.proofs.Writes.{wrote_then}
use Rattle.text.proofs.put_end.Goals as goal

pub returns : goal.returns
unfolding end_line
returns c = record {
  wrote = wrote_then c.put_bytes-first.ensures (wrote_then c.put_number-second.ensures.wrote c.put.ensures);
  upper_bound = omega
      (arith, c.put_bytes-first.ensures.next, c.put_number-second.ensures.upper_bound, c.put.ensures.next);
}
