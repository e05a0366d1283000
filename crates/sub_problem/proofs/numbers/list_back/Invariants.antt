-- `list_back` enters one variable a turn. Assumes nothing.
use Rattle.sub_problem.proofs.NumberLoops.{ListsBack}
use Rattle.sub_problem.proofs.numbers.list_back.Given as goal

abbrev pub invariant-loop-i : goal.invariant-loop-i
invariant-loop-i l = ListsBack l.start l.i l.initial.map l.map
