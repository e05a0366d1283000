-- What two probes of a variable find. Assumes nothing.
use Rattle.std.specs.Prelude.{List, ℕ, set}
use Rattle.meaning.specs.Steps.{Closure}
use Rattle.meaning.specs.Field.{Field}
use Rattle.meaning.specs.Gradient.{Forces}
use Rattle.meaning.specs.Kinds.{Kind, at_least_one, exactly_one, no_more_than_one, greater_than, less_than, equal}

-- the probe of i at v gives t, the closure of the start values with the one value added (rule 7.9)
abbrev pub Probed : Field → List ℕ → ℕ → ℕ → List ℕ → Type 0
Probed F s i v t = Closure (Forces F) (set s i v) t

-- the constraint between i and j, where the probe at i = 0 gives j the first value and that at i = 1 the second, 2 for none (rule 7.4)
pub data Found : ℕ → ℕ → Kind → Type 0 where
  both_equal : Found 0 1 equal
  both_differ : Found 1 0 exactly_one
  zero_gives_0 : Found 0 2 greater_than
  zero_gives_1 : Found 1 2 at_least_one
  one_gives_0 : Found 2 0 no_more_than_one
  one_gives_1 : Found 2 1 less_than
