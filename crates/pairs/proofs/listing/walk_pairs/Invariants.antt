-- `walk_pairs` examines one pair a turn. Assumes nothing.
use Prim.Native.Nat.{◌-◌}
use Rattle.field.specs.Field.{lent}
use Rattle.pairs.specs.Walk.{Walking}
use Rattle.pairs.proofs.listing.walk_pairs.Given as goal

abbrev pub invariant-loop-x : goal.invariant-loop-x
invariant-loop-x l = Walking (lent l.field) l.values l.most l.initial.list l.list l.pairs l.items l.x

abbrev pub decreases-loop-x : goal.decreases-loop-x
decreases-loop-x l = l.most - l.pairs
