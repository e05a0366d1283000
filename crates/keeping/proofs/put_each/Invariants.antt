-- `put_each` writes an operation's number a turn onto the lent buffer. Assumes nothing.
use Rattle.stream.specs.Outputs.{Onto}
use Rattle.keeping.proofs.put_each.Given as goal

abbrev pub invariant-loop-k : goal.invariant-loop-k
invariant-loop-k l = Onto l.initial.out.buffer l.out.buffer
