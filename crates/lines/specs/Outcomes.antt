-- What a call answered, as an outcome. Assumes nothing.
use Rattle.std.specs.Prelude.{ℕ, Option, Some, None, Result, Ok, Err}
use Rattle.field.specs.declared.Grade.{Grade}
use Rattle.field.specs.declared.Refusal.{Refusal}
use Rattle.field.specs.declared.Counted.{Counted}
use Rattle.field.specs.Answers.{number_of, Answer}
use Rattle.lines.specs.declared.outcomes.Outcome.{Outcome}
use Rattle.lines.specs.declared.outcomes.Undone.{Undone}
use Rattle.lines.specs.declared.outcomes.Undone.TheVariants.{Absent, Refusing, Numbered}

-- What a call did, with a grade where it has one, and two counts; it gives no reason.
abbrev pub outcome : Option Grade → ℕ → ℕ → Result Outcome Undone
outcome grade count pairs = Ok (record { grade = grade; count = count; pairs = pairs; reason = None })

-- What a refusal is told as.
abbrev pub refusing : Refusal → Result Outcome Undone
refusing r = Err (Refusing r)

-- The number of what was not done: a refusal's in the table, 11 where no call has the code, or the number that is told.
abbrev pub undone_number : Undone → ℕ
undone_number Absent = 11
undone_number (Refusing r) = number_of r
undone_number (Numbered n) = n

-- What was not done, if it was not, is that no call has the code, or a refusal of the table.
abbrev pub Tabled : Result Outcome Undone → Type 0
Tabled (Ok outcome) = Unit {0}
Tabled (Err Absent) = Unit {0}
Tabled (Err (Refusing r)) = Unit {0}
Tabled (Err (Numbered n)) = ⊥

-- The outcome of a call that answers without a grade, or its refusal.
abbrev pub checked : Answer Unit → Result Outcome Undone
checked (Ok x) = outcome None 0 0
checked (Err r) = refusing r

-- The outcome of a call that answers with its grade, or its refusal.
abbrev pub answered : Answer Grade → Result Outcome Undone
answered (Ok g) = outcome (Some g) 0 0
answered (Err r) = refusing r

-- The outcome of a call that answers with its grade and a count, or its refusal.
abbrev pub counted : Answer Counted → Result Outcome Undone
counted (Ok a) = outcome (Some a.grade) a.count 0
counted (Err r) = refusing r
