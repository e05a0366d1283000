-- A block of a list moved up in it. Assumes nothing.
use Rattle.std.specs.Prelude.{ℕ, ◌-◌, List, ◌++◌, take, drop}
use Rattle.std.proofs.Math.Seq.{slice}

-- the list with its elements from low to high in front of what stands at top
unfoldable pub raised : ℕ → ℕ → ℕ → List ℕ → List ℕ
raised low high top list = take (top - (high - low)) list ++ slice low high list ++ drop top list
