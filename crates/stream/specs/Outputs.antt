-- What writing leaves of the lent buffer. Assumes nothing.
use Rattle.std.specs.Prelude.{ℕ, ◌≡◌, List, length}
use Rattle.std.specs.Borrow.{MutBor}

-- The buffer is the one that was lent, as long as it was.
pub record Onto (b b' : MutBor (List ℕ)) : Type 0 where
  pub same : b'.ghost_name ≡ b.ghost_name
  pub long : length b'.now ≡ length b.now
