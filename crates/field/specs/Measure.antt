-- What the grade reads of a list of weights, and what it says of them. Assumes nothing.
use Rattle.std.specs.Prelude.{ℕ, suc, ◌<◌, ◌≤◌, ◌^◌, ◌≡◌, ◌⊎◌, ◌↔◌, List, length, get_or, Float}
use Rattle.std.specs.Float.{nan}
use Rattle.weights.specs.Pattern.{limit_of}
use Rattle.field.specs.Grade.{finest, coarsest, Weighs}

-- r is the lesser of a and b, as the smallest unit bound of a list is kept.
pub record Lesser (a b r : ℕ) : Type 0 where
  pub first : r ≤ a
  pub second : r ≤ b
  pub one : (r ≡ a) ⊎ (r ≡ b)

-- r is the greater of a and b, as the largest magnitude of a list is kept.
pub record Greater (a b r : ℕ) : Type 0 where
  pub first : a ≤ r
  pub second : b ≤ r
  pub one : (r ≡ a) ⊎ (r ≡ b)

-- the first k weights are whole in the units below `beyond`, and at most 2^31 units where `size` is at most the pattern of that
pub record Measured (w : List Float) (k beyond size : ℕ) : Type 0 where
  pub within : k ≤ length w
  pub small : beyond ≤ 4096
  pub low : size < 2 ^ 63
  pub means : (u : ℕ) → finest ≤ u → u ≤ suc coarsest → ((u < beyond) × (size ≤ limit_of u)) ↔ ((j : ℕ) → j < k → Weighs u (2 ^ 31) (get_or w j nan))

-- what two lists' measures say of a unit with the half u: all 2c and q are whole in it, and none is above 2^31 of it
pub record Both (a s b t u : ℕ) : Type 0 where
  pub linear : u < a
  pub linear_low : s ≤ limit_of u
  pub quad : suc u < b
  pub quad_low : t ≤ limit_of (suc u)

-- r is the first of 1,053 to 1,093 that they say it of, or 1,094
pub record First (a s b t r : ℕ) : Type 0 where
  pub from : finest ≤ r
  pub to : r ≤ suc coarsest
  pub passes : r ≤ coarsest → Both a s b t r
  pub least : (v : ℕ) → finest ≤ v → v < r → Both a s b t v → ⊥
