-- A part of the free variables that can be completed by itself. Assumes nothing.
use Rattle.std.specs.Prelude.{ℕ, ◌<◌, ◌≡◌, true, List, length, get_or}
use Rattle.meaning.specs.Part.{Separate}
use Rattle.field.specs.Field.{Field, variables}
use Rattle.field.specs.Reading.{whole_of}
use Rattle.parts.specs.Part.{has, Apart}

-- the members are variables, each once, free in t; an entry that leaves them ends in a place that t fixes
pub record Alone (u : ℕ) (F : Field) (t members : List ℕ) : Type 0 where
  pub once : Apart members
  pub below : (b : ℕ) → b < length members → get_or members b 0 < variables F
  pub free : (i : ℕ) → has members i ≡ true → get_or t i 0 ≡ 2
  pub separate : Separate (whole_of u F) t (has members)
