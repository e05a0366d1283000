-- `emit_list` takes one variable a turn. Assumes nothing.
use Rattle.finding.proofs.Listing.{Emitting}
use Rattle.finding.proofs.emitting.emit_list.Given as goal

abbrev pub invariant-loop-p : goal.invariant-loop-p
invariant-loop-p l = Emitting l.start l.values l.i l.from l.count l.least l.first l.at l.end l.initial.u l.u l.last l.p
