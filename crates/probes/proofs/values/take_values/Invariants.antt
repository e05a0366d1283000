-- `take_values` writes one value a turn. Assumes nothing.
use Prim.Native.Nat.{◌+◌}
use lib.ListN.{get_or}
use Rattle.probe.proofs.Laws.{WrittenTo}
use Rattle.probes.proofs.values.take_values.Given as goal

abbrev pub invariant-loop-j : goal.invariant-loop-j
invariant-loop-j l = WrittenTo (λ j. get_or l.u (l.at + j) 0) l.initial.values l.values l.j
