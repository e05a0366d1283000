-- `add_all_given` adds one variable a turn. Assumes nothing.
use Rattle.sub_problem.proofs.GatherLoops.{Adds}
use Rattle.sub_problem.proofs.gathering.add_all_given.Given as goal

abbrev pub invariant-loop-i : goal.invariant-loop-i
invariant-loop-i l = Adds l.c l.start l.from l.i l.sum
