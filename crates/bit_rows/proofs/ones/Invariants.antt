-- `ones` counts one word a turn. Assumes nothing.
use Rattle.bit_rows.specs.Rows.{Counting}
use Rattle.bit_rows.proofs.ones.Given as goal

abbrev pub invariant-loop-x : goal.invariant-loop-x
invariant-loop-x l = Counting l.w l.a l.x-index l.sum
