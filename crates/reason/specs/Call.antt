-- What the call `reason` answers and leaves, as one function of what it is given, for every input. Assumes nothing.
use Rattle.std.specs.Prelude.{ℕ, ◌<◌, ◌≡◌, ◌≢◌, Bool, not, ◌&&◌, List, [], ◌∷◌, ◌++◌, leb, ltb, length, get_or, Float, Err}
use Rattle.weights.specs.Worth.{zero64}
use Rattle.scratch.specs.Cleared.{cleared}
use Rattle.scratch.specs.Over.{over}
use Rattle.meaning.specs.Free.{is_free}
use Rattle.field.specs.declared.Refusal.TheVariants.{Inexact, Unforced, Room}
use Rattle.field.specs.Answers.{Answer}
use Rattle.field.specs.Field.{Field, variables}
use Rattle.field.specs.Table.{Test, test}
use Rattle.field.specs.declared.Grade.TheVariants.{Exact}
use Rattle.field.specs.Tests.{ready_tests, Ready}
use Rattle.field.specs.Grade.{is_exact_of, grade_of}
use Rattle.calls.specs.Call as any
use Rattle.calls.specs.Call.{Stage, called, stage, usual}
use Rattle.run.specs.Run.{closure}
use Rattle.reason.specs.declared.Reasoned.{Reasoned}
use Rattle.reason.specs.Ground.{least_unit, reason_of, reason_list}
use Rattle.reason.specs.Answers.{reasoned_answer}

-- What is lent to `reason`: the list of neighbours, the floats and the words.
pub record Lent : Type 0 where
  pub list : List ℕ
  pub floats : List Float
  pub words : List ℕ

-- The lent lists of `reason` in one record: the list of neighbours, the floats and the words.
abbrev pub lent : List ℕ → List Float → List ℕ → Lent
lent l f u = record { list = l; floats = f; words = u }

-- The answer of `reason`, and its three lent lists afterwards.
abbrev pub Left : Type 0
Left = any.Left (Answer Reasoned) Lent

-- What the call `reason` leaves, made of its answer and its three lent lists.
abbrev pub left : Answer Reasoned → List ℕ → List Float → List ℕ → Left
left r l f u = any.left r (lent l f u)

-- 13: the variable is not below n, or is free in the closure
unfoldable pub has_value : Field → List ℕ → ℕ → Bool
has_value F s i = ltb i (variables F) && not (is_free (closure F s) i)

-- What passing all but 9 leaves: a ready and exact field, and a variable with a value in the closure.
pub record Reasonable (F : Field) (s : List ℕ) (i floats words : ℕ) : Type 0 where
  pub ready : Ready F s floats words
  pub exact : grade_of F ≡ Exact
  pub below : i < variables F
  pub fixed : get_or (closure F s) i 0 ≢ 2

-- 9: the list has no room for all that are listed
unfoldable pub fits : Field → List ℕ → ℕ → List ℕ → Bool
fits F s i l = leb (length (reason_list F s i)) (length l)

-- the closure's tests, then 12 on an inexact field, 13 and 9
unfoldable pub reason_tests : Field → List ℕ → ℕ → List ℕ → ℕ → ℕ → List Test
reason_tests F s i l floats words = ready_tests F s floats words ++ test Inexact (is_exact_of F) ∷ test Unforced (has_value F s i) ∷ test Room (fits F s i l) ∷ []

-- 12 and 13 leave the list as it was, 9 leaves it all zeros, and past test 8 scratch ends as zeros (rules 3.9 and 3.10)
abbrev pub later_stages : Field → List ℕ → ℕ → List ℕ → List Float → List ℕ → List (Stage Lent)
later_stages F s i l f u =
    stage Inexact (is_exact_of F) (lent l (cleared zero64 f) (cleared 0 u))
    ∷ stage Unforced (has_value F s i) (lent l (cleared zero64 f) (cleared 0 u))
    ∷ stage Room (fits F s i l) (lent (cleared 0 l) (cleared zero64 f) (cleared 0 u))
    ∷ []

-- The answer when done: the ground with its bound, the unit, and how many neighbours are listed.
abbrev pub because : Field → List ℕ → ℕ → Answer Reasoned
because F s i = reasoned_answer (reason_of F s i) (least_unit F) (length (reason_list F s i))

-- The call: 1 to 6 and 8, then 12, 13 and 9, then the reason, with the neighbours at the front of the list.
unfoldable pub reason_call : Field → List ℕ → ℕ → List ℕ → List Float → List ℕ → Left
reason_call F s i l f u =
    called
    (usual Err (lent l f u) (ready_tests F s (length f) (length u)) (later_stages F s i l f u)
    (left (because F s i) (over (reason_list F s i) l) (cleared zero64 f) (cleared 0 u)))

-- Item t of the list of neighbours that `reason` leaves.
abbrev pub item : Field → List ℕ → ℕ → List ℕ → List Float → List ℕ → ℕ → ℕ
item F s i l f u t = get_or (reason_call F s i l f u).lent.list t 0
