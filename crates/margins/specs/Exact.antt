-- What the sums over a pair lean on. Assumes nothing.
use Rattle.std.specs.Prelude.{ℕ, ◌<◌, eqb}
use Rattle.whole.specs.Whole.{Whole, ◌⊕◌, only, sum, size}
use Rattle.field.specs.Field.{Field, entries, row_end, column_end, Shaped}
use Rattle.field.specs.Grade.{ExactIn}
use Rattle.field.specs.Reading.{whole_of}

-- a field in its shape, exact in a unit in which floats do not overflow
pub record Exact (u : ℕ) (F : Field) : Type 0 where
  pub unit : u < 2044
  pub exact : ExactIn u F
  pub shaped : Shaped F

-- What entry e adds at i, in whole numbers, where g says what a weight adds.
abbrev pub counts : ℕ → Field → (Whole → ℕ → Whole) → ℕ → ℕ → Whole
counts u F g i e = only (eqb (row_end F e) i) (g ((whole_of u F).weight e) (column_end F e)) ⊕ only (eqb (column_end F e) i) (g ((whole_of u F).weight e) (row_end F e))

-- |c|, and |q| of each entry at i
abbrev pub mass_of : ℕ → Field → ℕ → Whole
mass_of u F i = size ((whole_of u F).linear i) ⊕ sum (entries F) (counts u F (λ q j. size q) i)
