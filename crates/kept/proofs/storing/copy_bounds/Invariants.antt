-- `copy_bounds` copies one bound a turn. Assumes nothing.
use Rattle.kept.proofs.Coded.{Copied}
use Rattle.kept.proofs.storing.copy_bounds.Given as goal

abbrev pub invariant-loop-i : goal.invariant-loop-i
invariant-loop-i l = Copied l.bounds l.initial.f l.f l.i
