-- What the call `reason` answers where it is done. Assumes nothing.
use Rattle.std.specs.Prelude.{ℕ, Ok}
use Rattle.field.specs.Answers.{Answer}
use Rattle.reason.specs.declared.Ground.{Ground}
use Rattle.reason.specs.declared.Reasoned.{Reasoned}

-- What the call finds, made of the ground, the unit and the length of the list.
abbrev pub reasoned : Ground → ℕ → ℕ → Reasoned
reasoned g k m = record { because = g; unit = k; count = m }

-- What the call answers where it is done.
abbrev pub reasoned_answer : Ground → ℕ → ℕ → Answer Reasoned
reasoned_answer g k m = Ok (reasoned g k m)
