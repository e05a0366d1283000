-- `carry` takes one part a turn. Assumes nothing.
use Rattle.expansion.proofs.Carrying.{Carrying}
use Rattle.expansion.proofs.carry.Given as goal

abbrev pub invariant-loop-i : goal.invariant-loop-i
invariant-loop-i l = Carrying l.x l.count l.initial.parts l.parts l.kept l.high l.i
