-- `weight_of` halves the part in which the key may stand. Assumes nothing.
use Prim.Native.Nat.{◌-◌}
use Rattle.margins.specs.Merge.{Searching}
use Rattle.margins.proofs.walking.weight_of.Given as goal

abbrev pub invariant-loop-low : goal.invariant-loop-low
invariant-loop-low l = Searching l.keys l.from l.to l.k l.low l.high

abbrev pub decreases-loop-low : goal.decreases-loop-low
decreases-loop-low l = l.high - l.low
