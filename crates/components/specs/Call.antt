-- What the call `components` answers and leaves, as one function of what it is given, for every input. Assumes nothing.
use Rattle.std.specs.Prelude.{ℕ, List, Float}
use Rattle.field.specs.Field.{Field}
use Rattle.calls.specs.Values.{Left, values_call}
use Rattle.components.specs.Small.{small_parts}

-- tests 1 to 6 and 8, then the components
abbrev pub components_call : Field → List ℕ → List Float → List ℕ → Left
components_call = values_call small_parts
