-- What an exported call promises. Assumes nothing.
use Rattle.std.specs.Prelude.{ℕ, ◌≡◌}

-- r is the number of an answer, and with that answer the call leaves what its model says
pub record Exported {A L : Type 0} (packed : A → ℕ) (left : A → L) (r : ℕ) (call : L) : Type 0 where
  pub answer : A
  pub number : r ≡ packed answer
  pub leaves : left answer ≡ call
