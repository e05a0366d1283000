-- `measured` reads one weight a turn. Assumes nothing.
use Rattle.field.specs.Measure.{Measured}
use Rattle.field.proofs.weighs.measured.Given as goal

abbrev pub invariant-loop-x : goal.invariant-loop-x
invariant-loop-x l = Measured l.w l.x-index l.beyond l.size
