-- What the call `sub_problem` answers and leaves, as one function of what it is given, for every input. Assumes nothing.
use Rattle.std.specs.Prelude.{ℕ, Bool, List, [], ◌∷◌, ◌++◌, leb, length, take, Float, Err}
use Rattle.weights.specs.Worth.{zero64}
use Rattle.scratch.specs.Cleared.{cleared}
use Rattle.scratch.specs.Over.{over}
use Rattle.field.specs.declared.Refusal.TheVariants.{Room}
use Rattle.field.specs.Field.{Field, field_of}
use Rattle.field.specs.Answers.{Answer}
use Rattle.field.specs.Table.{Test, test}
use Rattle.field.specs.Tests.{open_tests}
use Rattle.field.specs.Grade.{grade_of}
use Rattle.calls.specs.Call as any
use Rattle.calls.specs.Call.{called, stage, usual}
use Rattle.sub_problem.specs.declared.Reduced.{Reduced}
use Rattle.sub_problem.specs.Reduced.{back, stays, constant, reduced}
use Rattle.sub_problem.specs.Answers.{reduced_answer}

-- what is lent: the field's four lists, the map list and both scratches
pub record Lent : Type 0 where
  pub lists : Field
  pub map_list : List ℕ
  pub floats : List Float
  pub words : List ℕ

-- What is lent to `sub_problem`, in one record: the field's lists, the map list, the floats and the words.
abbrev pub lent : Field → List ℕ → List Float → List ℕ → Lent
lent G l f u = record { lists = G; map_list = l; floats = f; words = u }

-- The answer of `sub_problem`, and all that is lent to it afterwards.
abbrev pub Left : Type 0
Left = any.Left (Answer Reduced) Lent

-- What the call `sub_problem` leaves, made of its answer and of all that is lent.
abbrev pub left : Answer Reduced → Field → List ℕ → List Float → List ℕ → Left
left r G l f u = any.left r (lent G l f u)

-- l at the front of a list as long as s, and z behind it
abbrev pub closed_up : {A : Type 0} → A → List A → List A → List A
closed_up z l s = over l (cleared z s)

-- the new field stands in the lists that were lent, with zeros behind it (rule 10.6)
abbrev pub closed_in : Field → Field → Field
closed_in G F = field_of (closed_up zero64 G.linear F.linear) (closed_up 0 G.rows F.rows) (closed_up 0 G.cols F.cols) (closed_up zero64 G.quad F.quad)

-- the field of the first n weights and the first m entries of four lists
abbrev pub first_of : ℕ → ℕ → Field → Field
first_of n m G = field_of (take n G.linear) (take m G.rows) (take m G.cols) (take m G.quad)

-- whether the map list has room for every free variable
abbrev pub fits : List ℕ → List ℕ → Bool
fits s l = leb (length (back s)) (length l)

-- the whole table: `open_tests`, and 9 where the map has fewer places than there are free variables
abbrev pub sub_problem_table : Field → List ℕ → List ℕ → ℕ → ℕ → List Test
sub_problem_table F s l floats words = open_tests F s floats words ++ test Room (fits s l) ∷ []

-- done: the smaller problem in the field's lists, the map back at the front of its list, and the scratch all zeros
unfoldable pub finished : Field → List ℕ → List ℕ → List Float → List ℕ → Left
finished F s l f u =
    left (reduced_answer (grade_of F) (length (back s)) (length (stays F s)) (constant F s)) (closed_in (reduced F s) F) (over (back s) l) (cleared zero64 f) (cleared 0 u)

-- the tests of `open_tests`, then room for the map: on 9 the field is as it was, and the map list all zeros
unfoldable pub sub_problem_call : Field → List ℕ → List ℕ → List Float → List ℕ → Left
sub_problem_call F s l f u =
    called
    (usual Err (lent F l f u) (open_tests F s (length f) (length u)) (stage Room (fits s l) (lent F (cleared 0 l) (cleared zero64 f) (cleared 0 u)) ∷ [])
    (finished F s l f u))
