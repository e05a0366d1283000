-- The edge mass in whole numbers, and the candidates in its order (rules 7.6 and 7.10). Assumes nothing.
use Rattle.std.specs.Prelude.{ℕ, ◌<◌, ◌≡◌, ◌⊎◌, cond, ◌&&◌, ◌||◌, List, eqb, ltb, length, get_or}
use Rattle.whole.specs.Whole.{Whole, ◌⊖◌, only, sum, size, ◌≈◌, Above0}
use Rattle.meaning.specs.Field.{Field}
use Rattle.meaning.specs.Free.{is_free}
use Rattle.ranking.specs.Rightly.{times}

-- |q| of entry k, if it has both ends free and i is one of them
abbrev pub edge : Field → List ℕ → ℕ → ℕ → Whole
edge F s i k = only ((is_free s (F.row k) && is_free s (F.column k)) && (eqb (F.row k) i || eqb (F.column k) i)) (size (F.weight k))

-- the sum of |q| over the entries at i with both ends free
abbrev pub edge_mass : Field → List ℕ → ℕ → Whole
edge_mass F s i = sum F.m (edge F s i)

-- i goes ahead of j: its mass is greater, or equal with a lower index
abbrev pub Ahead : Field → List ℕ → ℕ → ℕ → Type 0
Ahead F s i j = Above0 (edge_mass F s i ⊖ edge_mass F s j) ⊎ ((edge_mass F s i ≈ edge_mass F s j) × (i < j))

-- each free variable stands in l once, and nothing else does; each goes ahead of all that come after it
pub record RankedByMass (F : Field) (s l : List ℕ) : Type 0 where
  pub each_once : (i : ℕ) → times i l ≡ cond (ltb i F.n && is_free s i) 1 0
  pub falling : (p q : ℕ) → p < q → q < length l → Ahead F s (get_or l p 0) (get_or l q 0)
