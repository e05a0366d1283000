-- What the call `closure` answers and leaves, as one function of what it is given, for every input. Assumes nothing.
use Rattle.std.specs.Prelude.{ℕ, List, Float}
use Rattle.field.specs.declared.Counted.{Counted}
use Rattle.field.specs.Field.{Field}
use Rattle.calls.specs.Call as any
use Rattle.calls.specs.Values.{Lent, lent, counts, values_by}
use Rattle.run.specs.Run.{closure_run, closure, flat_rows}
use Rattle.field.specs.Answers.{Answer}

-- the answer, and the three lent lists afterwards
abbrev pub Left : Type 0
Left = any.Left (Answer Counted) Lent

-- What the call `closure` leaves, made of its answer, the start values and both scratches.
abbrev pub left : Answer Counted → List ℕ → List Float → List ℕ → Left
left r s f u = any.left r (lent s f u)

-- how many free variables have a flat row at the end of the run, as the run holds it (rule 4.11)
abbrev pub flat : Field → List ℕ → ℕ
flat F s = flat_rows (closure_run F s)

-- tests 1 to 6 and 8, then the closure, and the flat rows beside the grade
abbrev pub closure_call : Field → List ℕ → List Float → List ℕ → Left
closure_call = values_by (counts flat) closure
