-- `number` stores one number a turn. Assumes nothing.
use Rattle.sub_problem.proofs.NumberLoops.{Numbering}
use Rattle.sub_problem.proofs.numbers.number.Given as goal

abbrev pub invariant-loop-i : goal.invariant-loop-i
invariant-loop-i l = Numbering l.start l.initial.u l.i l.u l.count
