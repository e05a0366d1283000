-- `start_parts` stores c and |c| of one variable a turn. Assumes nothing.
use Rattle.neighbours.proofs.PartLaws.{Starting}
use Rattle.neighbours.proofs.parts.start_parts.Given as goal

abbrev pub invariant-loop-i : goal.invariant-loop-i
invariant-loop-i l = Starting l.c l.initial.f l.f l.i
