-- What the call `anchors` answers and leaves, as one function of what it is given, for every input. Assumes nothing.
use Rattle.std.specs.Prelude.{ℕ, Bool, List, [], ◌∷◌, ◌++◌, length, leb, Float, Err}
use Rattle.weights.specs.Worth.{zero64}
use Rattle.scratch.specs.Cleared.{cleared}
use Rattle.scratch.specs.Over.{over}
use Rattle.field.specs.declared.Counted.{Counted}
use Rattle.field.specs.declared.Refusal.TheVariants.{Room}
use Rattle.field.specs.Field.{Field}
use Rattle.field.specs.Table.{Test, test}
use Rattle.field.specs.Tests.{open_tests}
use Rattle.field.specs.Grade.{grade_of}
use Rattle.calls.specs.Call as any
use Rattle.calls.specs.Call.{called, stage, usual}
use Rattle.anchors.specs.Model.{anchors_of}
use Rattle.field.specs.Answers.{Answer, counted_answer}

-- whether the list has room for every anchor (rule 3.7)
abbrev pub fits : Field → List ℕ → ℕ → List ℕ → Bool
fits F s least list = leb (length (anchors_of F s least)) (length list)

-- the whole table: `open_tests` and 9
abbrev pub anchor_table : Field → List ℕ → ℕ → List ℕ → ℕ → ℕ → List Test
anchor_table F s least list floats words = open_tests F s floats words ++ test Room (fits F s least list) ∷ []

-- What is lent to `anchors`: the list of anchors, the floats and the words.
pub record Lent : Type 0 where
  pub list : List ℕ
  pub floats : List Float
  pub words : List ℕ

-- The lent lists of `anchors` in one record: the list of anchors, the floats and the words.
abbrev pub lent : List ℕ → List Float → List ℕ → Lent
lent l f u = record { list = l; floats = f; words = u }

-- The answer of `anchors`, and its three lent lists afterwards.
abbrev pub Left : Type 0
Left = any.Left (Answer Counted) Lent

-- What the call `anchors` leaves, made of its answer and its three lent lists.
abbrev pub left : Answer Counted → List ℕ → List Float → List ℕ → Left
left r l f u = any.left r (lent l f u)

-- the tests of `open_tests`, then room, then the anchors: on 9 the list is all zeros, past test 8 scratch ends as zeros, and what stands
-- behind the last item is as it was (rules 3.9 to 3.11)
unfoldable pub anchors_call : Field → List ℕ → ℕ → List ℕ → List Float → List ℕ → Left
anchors_call F s least list f u =
    called
    (usual Err (lent list f u) (open_tests F s (length f) (length u)) (stage Room (fits F s least list) (lent (cleared 0 list) (cleared zero64 f) (cleared 0 u)) ∷ [])
    (left (counted_answer (grade_of F) (length (anchors_of F s least))) (over (anchors_of F s least) list) (cleared zero64 f) (cleared 0 u)))
