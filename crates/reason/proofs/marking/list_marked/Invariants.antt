-- `list_marked` lists the marks, a variable at a turn. Assumes nothing.
use Rattle.reason.proofs.MarkTurns.{Listing}
use Rattle.reason.proofs.marking.list_marked.Given as goal

abbrev pub invariant-loop-j : goal.invariant-loop-j
invariant-loop-j l = Listing l.values l.initial.list l.j l.list l.count
