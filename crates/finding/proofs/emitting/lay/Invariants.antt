-- `lay` lays the value of one variable a turn. Assumes nothing.
use Rattle.finding.proofs.Laid.{Laying}
use Rattle.finding.proofs.emitting.lay.Given as goal

abbrev pub invariant-loop-p : goal.invariant-loop-p
invariant-loop-p l = Laying l.values l.from l.count l.first l.initial.u l.u l.p
