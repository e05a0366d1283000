-- What the call `preprocess` answers and leaves, as one function of what it is given, for every input. Assumes nothing.
use Rattle.std.specs.Prelude.{ℕ, List, Float}
use Rattle.field.specs.Field.{Field}
use Rattle.calls.specs.Values.{Left, values_call}
use Rattle.preprocess.specs.Working.{preprocess}

-- tests 1 to 6 and 8, then the work
abbrev pub preprocess_call : Field → List ℕ → List Float → List ℕ → Left
preprocess_call = values_call preprocess
