-- `pass` takes one variable a turn. Assumes nothing.
use Rattle.cold.proofs.Passed.{Passing}
use Rattle.cold.proofs.twice.pass.Given as goal

abbrev pub invariant-loop-j : goal.invariant-loop-j
invariant-loop-j l = Passing l.start l.values l.i l.first l.at l.end l.initial.u l.u l.last l.j
