-- `gallop` doubles its steps until one record is not above, and searches behind that. Assumes nothing.
use Prim.Native.Nat.{◌<◌}
use Rattle.found.specs.Joint.{Between}
use Rattle.found.proofs.merging.gallop.Given as goal

abbrev pub invariant-loop-step : goal.invariant-loop-step
invariant-loop-step l = Between 0 l.high l.items l.y l.list × (0 < l.step)

abbrev pub decreases-loop-step : goal.decreases-loop-step
decreases-loop-step l = l.high
