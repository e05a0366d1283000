-- `count_marked` counts the marks, a variable at a turn. Assumes nothing.
use Rattle.reason.proofs.MarkTurns.{Counting}
use Rattle.reason.proofs.marking.count_marked.Given as goal

abbrev pub invariant-loop-v : goal.invariant-loop-v
invariant-loop-v l = Counting l.values l.v-index l.count
