-- What the call `heavy` answers and leaves, as one function of what it is given, for every input. Assumes nothing.
use Rattle.std.specs.Prelude.{ℕ, List, Float}
use Rattle.field.specs.Field.{Field}
use Rattle.calls.specs.Values.{Left, values_call}
use Rattle.heavy.specs.Rounds.{heavy}

-- tests 1 to 6 and 8, then the rounds
abbrev pub heavy_call : Field → List ℕ → List Float → List ℕ → Left
heavy_call = values_call heavy
