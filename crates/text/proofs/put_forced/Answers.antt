-- `put_forced` writes two words, two numbers and a newline. Assumes nothing.
use mathlib.Core.Path.{ap}
use native.Mathlib.Omega.{arith}
use Rattle.text.specs.Text.{decimal, forced_line}
use Rattle.text.proofs.Writes.{wrote_then, as_text}
use Rattle.text.proofs.put_forced.Goals as goal

pub returns : goal.returns
unfolding forced_line
returns c = record {
  wrote = wrote_then c.put_bytes-first.ensures (wrote_then c.put_number-second.ensures.wrote (wrote_then c.put-third.ensures (wrote_then
      (as_text (ap decimal c.from.ensures) c.put_number-fourth.ensures.wrote) c.put.ensures)));
  upper_bound = omega (
    arith,
    c.put_bytes-first.ensures.next,
    c.put_number-second.ensures.upper_bound,
    c.put-third.ensures.next,
    c.put_number-fourth.ensures.upper_bound,
    c.put.ensures.next,
  );
}
