-- A call that answers in the start values: what it answers and leaves, as one function of what it is given, for every input. Assumes nothing.
use Rattle.std.specs.Prelude.{ℕ, ◌≡◌, List, [], length, Float, Ok, Err}
use Rattle.weights.specs.Worth.{zero64}
use Rattle.scratch.specs.Cleared.{cleared}
use Rattle.field.specs.declared.Counted.{Counted}
use Rattle.field.specs.declared.Refusal.{Refusal}
use Rattle.field.specs.Field.{Field}
use Rattle.field.specs.Tests.{ready_tests}
use Rattle.field.specs.Grade.{grade_of}
use Rattle.calls.specs.Call as any
use Rattle.calls.specs.Call.{called, usual}
use Rattle.field.specs.Answers.{Answer, counted_answer}
use Rattle.field.specs.declared.Grade.{Grade}

-- The three lent lists of a call that answers in the start values: these, the floats and the words.
pub record Lent : Type 0 where
  pub values : List ℕ
  pub floats : List Float
  pub words : List ℕ

-- The three lent lists in one record: the start values, the float scratch and the word scratch.
abbrev pub lent : List ℕ → List Float → List ℕ → Lent
lent s f u = record { values = s; floats = f; words = u }

-- The answer of a call on start values, and its three lent lists afterwards.
abbrev pub Left : Type 0
Left = any.Left (Answer Grade) Lent

-- What a call on start values leaves, made of its answer and the three lent lists.
abbrev pub left : Answer Grade → List ℕ → List Float → List ℕ → Left
left r s f u = any.left r (lent s f u)

-- which values go into the start values, for a field and its start values
abbrev pub Values : Type 0
Values = Field → List ℕ → List ℕ

-- how a call answers: how it refuses, and what it says when done
pub record Says (A : Type 0) : Type 0 where
  pub refuse : Refusal → A
  pub done : Field → List ℕ → A

-- refusals differ, and none is what is said when done
pub record Tells {A : Type 0} (says : Says A) : Type 0 where
  pub same : (r t : Refusal) → says.refuse r ≡ says.refuse t → r ≡ t
  pub apart : (F : Field) (s : List ℕ) (r : Refusal) → says.done F s ≡ says.refuse r → ⊥

-- on 0 the grade is answered (rule 2.8)
abbrev pub grades : Says (Answer Grade)
grades = record { refuse = Err; done = λ F s. Ok (grade_of F) }

-- The call says the grade and a count beside it when it is done.
abbrev pub counts : (Field → List ℕ → ℕ) → Says (Answer Counted)
counts count = record { refuse = Err; done = λ F s. counted_answer (grade_of F) (count F s) }

-- tests 1 to 6 and 8, then the values, which go into the start values (rule 3.12);
-- past test 8 scratch ends as all zeros (rule 3.9)
unfoldable pub values_by : {A : Type 0} → Says A → Values → Field → List ℕ → List Float → List ℕ → any.Left A Lent
values_by says values F s f u =
    called (usual says.refuse (lent s f u) (ready_tests F s (length f) (length u)) [] (any.left (says.done F s) (lent (values F s) (cleared zero64 f) (cleared 0 u))))

-- A call that answers in the start values and says the grade alone.
abbrev pub values_call : Values → Field → List ℕ → List Float → List ℕ → Left
values_call = values_by grades
