-- The loop over all reads: what holds at each of them. Assumes nothing.
use Prim.Native.Nat.{ℕ, ◌<◌}
use mathlib.Core.Path.{◌≡◌}
use mathlib.Core.List.{List}
use lib.ListN.{length}
use Rattle.tally.specs.Tally.{Small}
use Rattle.tally.specs.declared.Reached.{Reached}

-- the buffer keeps its length, no total is too large, and what is held leaves room in the buffer
pub record Reading (b₀ b : List ℕ) (r : Reached) : Type 0 where
  pub long : length b ≡ length b₀
  pub small : Small r.totals
  pub inside : r.at < length b
