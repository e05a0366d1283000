-- What the search for an entry of a variable promises. Assumes nothing.
use Rattle.std.specs.Prelude.{ℕ, ◌<◌, ◌≤◌, ◌≡◌, true, false, List, length}
use Rattle.kept.specs.Kept.{meets}

-- none of the entries from `from` up to r is one of i
pub record Skipped (rows cols : List ℕ) (i from r : ℕ) : Type 0 where
  pub reach : from ≤ r
  pub within : r ≤ length rows
  pub apart : (k : ℕ) → from ≤ k → k < r → meets rows cols i k ≡ false

-- r is the first entry of i from `from` on, or the number of entries where there is none
pub record Next (rows cols : List ℕ) (i from r : ℕ) : Type 0 where
  pub skipped : Skipped rows cols i from r
  pub found : r < length rows → meets rows cols i r ≡ true
