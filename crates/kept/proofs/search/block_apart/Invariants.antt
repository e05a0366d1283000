-- `block_apart` tests one entry a turn. Assumes nothing.
use Prim.Native.Nat.{◌+◌}
use mathlib.Core.Bool.{not}
use Rattle.scratch.specs.All.{Testing}
use Rattle.kept.specs.Kept.{meets}
use Rattle.kept.proofs.search.block_apart.Given as goal

abbrev pub invariant-loop-k : goal.invariant-loop-k
invariant-loop-k l = Testing (λ j. not (meets l.rows l.cols l.i (l.from + j))) 64 l.k l.apart
