-- What the call `sub_problem` answers where it is done. Assumes nothing.
use Rattle.std.specs.Prelude.{ℕ, Ok, Float}
use Rattle.field.specs.declared.Grade.{Grade}
use Rattle.field.specs.Answers.{Answer}
use Rattle.sub_problem.specs.declared.Reduced.{Reduced}

-- What the call finds, made of the grade of the field as it was given, the new n, the new m and the constant.
abbrev pub reduction : Grade → ℕ → ℕ → Float → Reduced
reduction g n m k = record { grade = g; variables = n; entries = m; constant = k }

-- What the call answers where it is done.
abbrev pub reduced_answer : Grade → ℕ → ℕ → Float → Answer Reduced
reduced_answer g n m k = Ok (reduction g n m k)
