-- Choices at all listed anchors at once (rule 9.8). Assumes nothing.
use Rattle.std.specs.Prelude.{ℕ, ◌<◌, ◌≡◌, List, get_or}
use Rattle.meaning.specs.Field.{Best}
use Rattle.meaning.specs.Records.{Record, MeetsRecord}
use Rattle.field.specs.Field.{Field, variables}
use Rattle.field.specs.Reading.{whole_of}
use Rattle.together.specs.Found.{Leaves, Lists}

-- x has every value and meets every record that the calls find from the same start values
pub record Obeys (F : Field) (s x : List ℕ) : Type 0 where
  pub values : (i v : ℕ) → i < variables F → v < 2 → Leaves F s i v → get_or x i 0 ≡ v
  pub records : (r : Record) → Lists F s r → MeetsRecord x r

-- some best completion makes all choices at once, and obeys: choice j at the j-th of the first k variables of the list, for each j below k
pub record AllAtOnce (unit : ℕ) (F : Field) (s list : List ℕ) (k : ℕ) (choice : ℕ → ℕ) : Type 0 where
  pub completion : List ℕ
  pub best : Best (whole_of unit F) s completion
  pub chosen : (j : ℕ) → j < k → get_or completion (get_or list j 0) 0 ≡ choice j
  pub obeys : Obeys F s completion
