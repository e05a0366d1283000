-- What a row is worth: two whole numbers, its bounds, counted in the unit u. Assumes nothing.
use Rattle.std.specs.Prelude.{ℕ}
use Rattle.whole.specs.Whole.{Whole, ◌⊕◌, sum}
use Rattle.weights.specs.Worth.{Worth}
use Rattle.meaning.specs.Gradient.{View, part}
use Rattle.field.specs.Field.{Field}
use Rattle.field.specs.Reading.{whole_of}
use Rattle.rows.specs.declared.Row.{Row}

-- The row's lower bound is a units and its upper bound b units, both whole numbers of the unit u.
pub record RowWorth (u : ℕ) (r : Row) (a b : Whole) : Type 0 where
  pub lower : Worth u r.lower a
  pub upper : Worth u r.upper b

-- row i's bound after k entries, in whole numbers, as a view sees them; free says what a weight adds at a free end
abbrev pub bound_to : (Whole → Whole) → ℕ → Field → View → ℕ → ℕ → Whole
bound_to free u F w i k = (whole_of u F).linear i ⊕ sum k (part free (whole_of u F) w i)
