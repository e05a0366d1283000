-- What two probes of a variable find of another one (rule 7.4). Assumes nothing.
use Rattle.std.specs.Prelude.{ℕ, zero, suc}
use Rattle.meaning.specs.Kinds.{at_least_one, exactly_one, no_more_than_one, greater_than, less_than, equal, Constraint, joining}

-- What the two probes of a variable find of another: nothing, a value, or a constraint between the two.
pub data Finding : Type 0 where
  nothing : Finding
  value : ℕ → Finding
  constraint : Constraint → Finding

-- the probe of i at 0 gives j the first value, that at 1 the second, 2 for none: where both give the same, that is a value; where they give
-- 0 then 1, Equal, and 1 then 0, ExactlyOne; where only one gives j a value, the constraint forbids i's value with the opposite of that
unfoldable pub found : ℕ → ℕ → ℕ → ℕ → Finding
found i j zero zero = value 0
found i j zero (suc zero) = constraint (joining equal i j)
found i j zero (suc (suc w)) = constraint (joining greater_than i j)
found i j (suc zero) zero = constraint (joining exactly_one i j)
found i j (suc zero) (suc zero) = value 1
found i j (suc zero) (suc (suc w)) = constraint (joining at_least_one i j)
found i j (suc (suc v)) zero = constraint (joining no_more_than_one i j)
found i j (suc (suc v)) (suc zero) = constraint (joining less_than i j)
found i j (suc (suc v)) (suc (suc w)) = nothing
