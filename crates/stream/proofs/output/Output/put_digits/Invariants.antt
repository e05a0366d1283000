-- `put_digits` writes a digit a turn onto the lent buffer. Assumes nothing.
use Rattle.stream.specs.Outputs.{Onto}
use Rattle.stream.proofs.output.Output.put_digits.Given as goal

abbrev pub invariant-loop-value : goal.invariant-loop-value
invariant-loop-value l = Onto l.initial.self.buffer l.self.buffer
