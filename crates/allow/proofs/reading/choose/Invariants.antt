-- `choose` makes one choice a turn. Assumes nothing.
use Rattle.allow.specs.Choice.{Choosing}
use Rattle.allow.proofs.reading.choose.Given as goal

abbrev pub invariant-loop-i : goal.invariant-loop-i
invariant-loop-i l = Choosing l.n l.initial.w l.initial.assignment l.i l.w l.assignment
