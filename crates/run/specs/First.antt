-- The run that builds no places where the scan forces nothing: which variables the scan passes over, what such a run asks, and what it leaves. Assumes nothing.
use Rattle.std.specs.Prelude.{ℕ, ◌+◌, ◌≤◌, ◌≡◌, Bool, not, ◌&&◌, List, length, Float}
use Rattle.meaning.specs.Free.{is_free}
use Rattle.field.specs.Field.{Field, variables, Shaped}
use Rattle.rows.specs.Row.{is_strict}
use Rattle.rows.specs.Stored.{row_on, rows_on}
use Rattle.run.specs.Run.{closure_run}
use Rattle.run.specs.Cells.{base}

-- the scan passes over variable t: it has a value, or its row is not strict
abbrev pub passes : List ℕ → List Float → ℕ → Bool
passes s f t = not (is_free s t && is_strict (row_on f (length s) t))

-- what a run from the values s asks: the field has its shape, there is a value for each variable, and the scratches have room
pub record Closable (F : Field) (s : List ℕ) (floats words : ℕ) : Type 0 where
  pub shaped : Shaped F
  pub values_long : length s ≡ variables F
  pub floats_room : variables F + variables F ≤ floats
  pub words_room : base F + variables F ≤ words

-- what it leaves: the values and the rows of the closure's run from s, in lists as long as before
pub record Closes (F : Field) (s : List ℕ) (f₀ : List Float) (s' : List ℕ) (f : List Float) : Type 0 where
  pub values : s' ≡ (closure_run F s).values
  pub rows : rows_on f (variables F) ≡ (closure_run F s).rows
  pub values_long : length s' ≡ variables F
  pub floats_long : length f ≡ length f₀
