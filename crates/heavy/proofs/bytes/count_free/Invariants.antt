-- `count_free` looks at one value a turn. Assumes nothing.
use Rattle.heavy.proofs.Counted.{Counting}
use Rattle.heavy.proofs.bytes.count_free.Given as goal

abbrev pub invariant-loop-value : goal.invariant-loop-value
invariant-loop-value l = Counting l.values l.count l.value-index
