-- `write_refused` writes a word, a number and a newline. Assumes nothing.
use native.Mathlib.Omega.{arith}
use Rattle.text.specs.Text.{refused_text}
use Rattle.text.proofs.Writes.{wrote_then, written}
use Rattle.text.proofs.write_refused.Goals as goal

pub returns : goal.returns
unfolding refused_text
returns c =
    written (wrote_then c.put_bytes-first.ensures (wrote_then c.put_number-second.ensures.wrote c.put.ensures))
    (omega (
      arith,
      c.put_bytes-first.ensures.next,
      c.put_number-second.ensures.upper_bound,
      c.put.ensures.next,
      c.requires,
    ))
