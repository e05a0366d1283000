-- What the call `mend` answers where it is done. Assumes nothing.
use Rattle.std.specs.Prelude.{ℕ, Ok}
use Rattle.field.specs.declared.Grade.{Grade}
use Rattle.field.specs.Answers.{Answer}
use Rattle.mend.specs.declared.Mended.{Mended}

-- What the call finds, made of the mended field's grade, the new number of entries and the number of changes.
abbrev pub mending : Grade → ℕ → ℕ → Mended
mending g m changes = record { grade = g; entries = m; changes = changes }

-- What the call answers where it is done.
abbrev pub mended_answer : Grade → ℕ → ℕ → Answer Mended
mended_answer g m changes = Ok (mending g m changes)
