-- `keep_new` writes one value a turn. Assumes nothing.
use lib.ListN.{get_or}
use Rattle.probe.specs.Call.{new_at}
use Rattle.probe.proofs.Laws.{WrittenTo}
use Rattle.probe.proofs.values.keep_new.Given as goal

abbrev pub invariant-loop-i : goal.invariant-loop-i
invariant-loop-i l = WrittenTo (λ j. new_at (get_or l.start j 0) (get_or l.initial.values j 0)) l.initial.values l.values l.i
