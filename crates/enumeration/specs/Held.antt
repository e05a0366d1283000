-- What the enumeration asks of lent memory. Assumes nothing.
use Rattle.std.specs.Prelude.{ℕ, ◌+◌, ◌<◌, ◌≤◌, ◌≡◌, List, length, get_or}
use Rattle.field.specs.Field.{Field, variables, Shaped}
use Rattle.places.specs.Places.{Adjacent}

-- the field has its shape, and there is a value for each variable
pub record Valued (F : Field) (s : List ℕ) : Type 0 where
  pub shaped : Shaped F
  pub values_long : length s ≡ variables F

-- the field has its shape, and the adjacency is in its place
pub record Placed (F : Field) (u : List ℕ) : Type 0 where
  pub shaped : Shaped F
  pub adjacent : Adjacent (variables F) F.rows F.cols u

-- The field has its shape, the adjacency is in its place, and there is a value for each variable.
pub record Held (F : Field) (s u : List ℕ) : Type 0 where
  pub placed : Placed F u
  pub values_long : length s ≡ variables F

-- from index at on stand the count members of a part, variables, at most 10
pub record Small (n : ℕ) (u : List ℕ) (at count : ℕ) : Type 0 where
  pub few : count ≤ 10
  pub room : at + count ≤ length u
  pub below : (b : ℕ) → b < count → get_or u (at + b) 0 < n
