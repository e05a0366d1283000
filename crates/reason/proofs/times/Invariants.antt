-- `times` has the product of as many turns as it has done. Assumes nothing.
use Prim.Native.Nat.{◌≤◌}
use mathlib.Core.Path.{◌≡◌}
use Rattle.reason.specs.Ground.{times}
use Rattle.reason.proofs.times.Given as goal

abbrev pub invariant-loop : goal.invariant-loop
invariant-loop l = (l.counter ≤ l.count) × (l.product ≡ times l.by l.counter l.x)
