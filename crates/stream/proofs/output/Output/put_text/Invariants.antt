-- `put_text` writes a byte a turn onto the lent buffer. Assumes nothing.
use Rattle.stream.specs.Outputs.{Onto}
use Rattle.stream.proofs.output.Output.put_text.Given as goal

abbrev pub invariant-loop-byte : goal.invariant-loop-byte
invariant-loop-byte l = Onto l.initial.self.buffer l.self.buffer
