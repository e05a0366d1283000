-- `selves` marks one bit a turn. Assumes nothing.
use Rattle.arrows.specs.Marks.{Selving}
use Rattle.arrows.proofs.selves.Given as goal

abbrev pub invariant-loop-a : goal.invariant-loop-a
invariant-loop-a l = Selving l.m l.initial.w l.a l.w
