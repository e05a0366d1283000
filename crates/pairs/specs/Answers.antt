-- What the call `pairs` answers where it is done. Assumes nothing.
use Rattle.std.specs.Prelude.{ℕ, Ok}
use Rattle.field.specs.declared.Grade.{Grade}
use Rattle.field.specs.Answers.{Answer}
use Rattle.pairs.specs.declared.Paired.{Paired}

-- What the call finds, made of the grade, the number of constraints and the number of pairs examined.
abbrev pub paired : Grade → ℕ → ℕ → Paired
paired g k p = record { grade = g; items = k; pairs = p }

-- What the call answers where it is done.
abbrev pub paired_answer : Grade → ℕ → ℕ → Answer Paired
paired_answer g k p = Ok (paired g k p)
