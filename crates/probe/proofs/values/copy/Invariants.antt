-- `copy` writes one value a turn. Assumes nothing.
use lib.ListN.{get_or}
use Rattle.probe.proofs.Laws.{WrittenTo}
use Rattle.probe.proofs.values.copy.Given as goal

abbrev pub invariant-loop-i : goal.invariant-loop-i
invariant-loop-i l = WrittenTo (λ j. get_or l.start j 0) l.initial.values l.values l.i
