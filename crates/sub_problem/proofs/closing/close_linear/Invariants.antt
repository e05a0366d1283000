-- `close_linear` brings one weight to the front a turn. Assumes nothing.
use Prim.Native.Nat.{◌-◌}
use Rattle.sub_problem.proofs.CloseLoops.{ClosesTo}
use Rattle.sub_problem.proofs.closing.close_linear.Given as goal

abbrev pub invariant-loop-t : goal.invariant-loop-t
invariant-loop-t l = ClosesTo l.initial.c l.map l.f l.count l.t l.c

abbrev pub decreases-loop-t : goal.decreases-loop-t
decreases-loop-t l = l.count - l.t
