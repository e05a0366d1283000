-- What the run starts from and ends in on an exact field: rows that are worth the gradient's bounds, and the closure. Assumes nothing.
use Rattle.std.specs.Prelude.{ℕ, ◌≡◌, List, get_or}
use Rattle.meaning.specs.Steps.{Closure}
use Rattle.meaning.specs.Gradient.{low, high, Forces}
use Rattle.field.specs.Field.{Field}
use Rattle.field.specs.Reading.{whole_of}
use Rattle.rows.specs.declared.Row.{Row}
use Rattle.rows.specs.Counted.{RowWorth}
use Rattle.run.specs.Run.{Run, no_row}

-- the row of each free variable is worth low and high at the values s
abbrev pub RowsWorth : ℕ → Field → List ℕ → List Row → Type 0
RowsWorth u F s rows = (t : ℕ) → get_or s t 0 ≡ 2 → RowWorth u (get_or rows t no_row) (low (whole_of u F) s t) (high (whole_of u F) s t)

-- the values are the closure of s, and the rows are worth the bounds there
pub record Ended (u : ℕ) (F : Field) (s : List ℕ) (run : Run) : Type 0 where
  pub closed : Closure (Forces (whole_of u F)) s run.values
  pub worth : RowsWorth u F run.values run.rows
