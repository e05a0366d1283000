-- `put_list` writes an element a turn onto the lent buffer. Assumes nothing.
use Rattle.stream.specs.Outputs.{Onto}
use Rattle.stream.proofs.output.Output.put_list.Given as goal

abbrev pub invariant-loop-i : goal.invariant-loop-i
invariant-loop-i g l = Onto l.initial.self.buffer l.self.buffer
