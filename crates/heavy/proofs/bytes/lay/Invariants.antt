-- `lay` writes one value a turn. Assumes nothing.
use lib.ListN.{length, get_or}
use Rattle.scratch.specs.Region.{region}
use Rattle.probe.proofs.Laws.{WrittenTo}
use Rattle.heavy.specs.Rounds.{laid_at}
use Rattle.heavy.proofs.bytes.lay.Given as goal

abbrev pub invariant-loop-j : goal.invariant-loop-j
invariant-loop-j l = WrittenTo (λ i. laid_at (get_or (region l.at (length l.initial.values) l.u) i 0) (get_or l.initial.values i 0)) l.initial.values l.values l.j
