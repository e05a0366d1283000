-- `search` takes one start a turn. Assumes nothing.
use Rattle.field.specs.Field.{lent}
use Rattle.anchors.proofs.Searching.{Searching}
use Rattle.anchors.proofs.search.search.Given as goal

abbrev pub invariant-loop-i : goal.invariant-loop-i
invariant-loop-i l = Searching (lent l.field) l.start l.least l.initial.list l.initial.f l.initial.u l.i l.list l.f l.u l.found
