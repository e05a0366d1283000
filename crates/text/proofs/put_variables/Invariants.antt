-- `put_variables` goes through one variable a turn. Assumes nothing.
use Rattle.text.proofs.Writes.{Showing}
use Rattle.text.proofs.put_variables.Given as goal

abbrev pub invariant-loop-i : goal.invariant-loop-i
invariant-loop-i l = Showing l.start l.values l.initial.out l.from l.out l.shown.at l.shown.count l.i
