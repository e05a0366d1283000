-- `put_entries` writes an entry a turn onto the lent buffer. Assumes nothing.
use Rattle.stream.specs.Outputs.{Onto}
use Rattle.stream.proofs.output.Output.put_entries.Given as goal

abbrev pub invariant-loop-k : goal.invariant-loop-k
invariant-loop-k l = Onto l.initial.self.buffer l.self.buffer
