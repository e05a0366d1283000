-- A variable's weight in whole numbers, and the leader by it (rule 9.6). Assumes nothing.
use Rattle.std.specs.Prelude.{ℕ, ◌≤◌, ◌≡◌, ◌⊎◌, true, not, ◌&&◌, ◌||◌, List, eqb}
use Rattle.whole.specs.Whole.{Whole, ◌⊖◌, only, sum, size, ◌≈◌, Above0}
use Rattle.meaning.specs.Field.{Field}
use Rattle.parts.specs.Part.{has}

-- |q| of entry k, if it is off the diagonal and i is one of its ends
abbrev pub edge : Field → ℕ → ℕ → Whole
edge F i k = only (not (eqb (F.row k) (F.column k)) && (eqb (F.row k) i || eqb (F.column k) i)) (size (F.weight k))

-- The sum of |q| over the entries at i that are off the diagonal, in whole numbers.
abbrev pub edge_weight : Field → ℕ → Whole
edge_weight F i = sum F.m (edge F i)

-- By edge weight in whole numbers a stands before i: its sum is greater, or equal and its index not greater.
abbrev pub Outweighs : Field → ℕ → ℕ → Type 0
Outweighs F a i = Above0 (edge_weight F a ⊖ edge_weight F i) ⊎ ((edge_weight F a ≈ edge_weight F i) × (a ≤ i))

-- a is the member of K with the greatest edge weight in whole numbers, the lowest of those that have it.
pub record LeadsByWeight (F : Field) (K : List ℕ) (a : ℕ) : Type 0 where
  pub member : has K a ≡ true
  pub first : (i : ℕ) → has K i ≡ true → Outweighs F a i
