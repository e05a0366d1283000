-- What holds of a run over every field, exact or not: its values are start values, and its queue has room. Assumes nothing.
use Rattle.std.specs.Prelude.{ℕ, ◌+◌, ◌<◌, ◌≤◌, ◌≢◌, List, length, get_or}
use Rattle.meaning.specs.Steps.{Extends}
use Rattle.meaning.specs.Free.{frees}
use Rattle.field.specs.Field.{StartFor}

-- the values extend s; the queue holds variables that have a value, each once; with the free ones they are n at most
pub record Room (n : ℕ) (s values queue : List ℕ) : Type 0 where
  pub extends : Extends s values
  pub valid : StartFor n values
  pub variable : (p : ℕ) → p < length queue → get_or queue p 0 < n
  pub fixed : (p : ℕ) → p < length queue → get_or values (get_or queue p 0) 0 < 2
  pub apart : (p q : ℕ) → p < q → q < length queue → get_or queue p 0 ≢ get_or queue q 0
  pub count : length queue + frees values ≤ n
