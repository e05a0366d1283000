-- The loop that writes the values back. Assumes nothing.
use Prim.Native.Nat.{ℕ, ◌<◌, ◌≤◌}
use mathlib.Core.Path.{◌≡◌}
use mathlib.Core.List.{List}
use lib.ListN.{length, get_or}

-- the first i elements of u stand in s, which is as long as s₀
pub record Copied (s₀ u s : List ℕ) (i : ℕ) : Type 0 where
  pub within : i ≤ length s₀
  pub long : length s ≡ length s₀
  pub same : (j : ℕ) → j < i → get_or s j 0 ≡ get_or u j 0
