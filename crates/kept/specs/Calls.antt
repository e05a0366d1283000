-- What the four calls on a kept record answer and leave, each as one function of what it is given, for every input (rules 12.3 to 12.8). Assumes nothing.
use Rattle.std.specs.Prelude.{ℕ, ◌+◌, ◌<◌, ◌≤◌, ◌≡◌, ◌≢◌, Bool, not, ◌&&◌, List, [], ◌∷◌, ◌++◌, eqb, leb, ltb, length, get_or, Float, Ok, Err}
use Rattle.weights.specs.Worth.{zero64}
use Rattle.scratch.specs.Cleared.{cleared}
use Rattle.meaning.specs.Free.{is_free}
use Rattle.field.specs.declared.Counted.{Counted}
use Rattle.field.specs.declared.Refusal.TheVariants.{Start, Argument, Scratch, Inexact, Room}
use Rattle.field.specs.Field.{Field, variables, entries}
use Rattle.field.specs.Table.{Test, test}
use Rattle.field.specs.Tests.{standard_tests, floats_fit, words_fit, Sound, Ready}
use Rattle.field.specs.Grade.{is_exact_of, grade_of}
use Rattle.calls.specs.Call as any
use Rattle.calls.specs.Call.{called, stage, usual}
use Rattle.calls.specs.Values as values
use Rattle.rows.specs.Stored.{rows_on}
use Rattle.run.specs.Run.{Run, propagate, flat_rows}
use Rattle.kept.specs.Kept.{Kept, kept, made, pinned, released}
use Rattle.field.specs.Answers.{Answer, passed, counted_answer}
use Rattle.field.specs.declared.Grade.{Grade}

-- ---- the tests

-- 6: the bounds are not 2n long
unfoldable pub bounds_fit : ℕ → ℕ → Bool
bounds_fit n bounds = eqb bounds (n + n)

-- The tests of a record: those of standard form and start values, and 6 of the bounds' length.
unfoldable pub record_tests : Field → List ℕ → ℕ → List Test
record_tests F s bounds = standard_tests F s ++ test Start (bounds_fit (variables F) bounds) ∷ []

-- The tests of `make` and `close`: those of a record, and 8 of both scratches.
unfoldable pub lent_tests : Field → List ℕ → ℕ → ℕ → ℕ → List Test
lent_tests F s bounds floats words =
    record_tests F s bounds ++ test Scratch (floats_fit (variables F) (entries F) floats) ∷ test Scratch (words_fit (variables F) (entries F) words) ∷ []

-- 7: the variable is not below n or not free, or the value is above 1
unfoldable pub may_pin : ℕ → List ℕ → ℕ → ℕ → Bool
may_pin n s i v = ltb i n && (is_free s i && leb v 1)

-- The tests of `pin`: 1 to 6 of the record, and 7 of the variable and its value.
unfoldable pub pin_tests : Field → List ℕ → ℕ → ℕ → ℕ → List Test
pin_tests F s bounds i v = record_tests F s bounds ++ test Argument (may_pin (variables F) s i v) ∷ []

-- 7: the variable is not below n, or is free
unfoldable pub may_release : ℕ → List ℕ → ℕ → Bool
may_release n s i = ltb i n && not (is_free s i)

-- The tests of `release`: 1 to 6 of the record, and 7 of the variable.
unfoldable pub release_tests : Field → List ℕ → ℕ → ℕ → List Test
release_tests F s bounds i = record_tests F s bounds ++ test Argument (may_release (variables F) s i) ∷ []

-- What passing 1 to 6 leaves: a sound field with its values, and a record of 2n bounds.
pub record Recorded (F : Field) (s : List ℕ) (bounds : ℕ) : Type 0 where
  pub sound : Sound F s
  pub long : bounds ≡ variables F + variables F

-- What passing 1 to 6 and 8 leaves: a field and scratch as the closure has them, and a record of 2n bounds.
pub record Lendable (F : Field) (s : List ℕ) (bounds floats words : ℕ) : Type 0 where
  pub ready : Ready F s floats words
  pub long : bounds ≡ variables F + variables F

-- What passing the tests of `pin` leaves: a record, a free variable, and a value of 0 or 1.
pub record Pinnable (F : Field) (s : List ℕ) (bounds i v : ℕ) : Type 0 where
  pub recorded : Recorded F s bounds
  pub below : i < variables F
  pub free : get_or s i 0 ≡ 2
  pub small : v ≤ 1

-- What passing the tests of `release` leaves: a record, and a variable that has a value.
pub record Releasable (F : Field) (s : List ℕ) (bounds i : ℕ) : Type 0 where
  pub recorded : Recorded F s bounds
  pub below : i < variables F
  pub fixed : get_or s i 0 ≢ 2

-- ---- the call that makes the record

-- what it writes: the bounds, the number of strict rows, and both scratches
pub record Lent : Type 0 where
  pub bounds : List Float
  pub strict : ℕ
  pub floats : List Float
  pub words : List ℕ

-- What `make` writes, in one record: the bounds, the number of strict rows, and both scratches.
abbrev pub lent : List Float → ℕ → List Float → List ℕ → Lent
lent b n f u = record { bounds = b; strict = n; floats = f; words = u }

-- The answer of `make`, and afterwards the bounds, the number of strict rows and both scratches.
abbrev pub Left : Type 0
Left = any.Left (Answer Grade) Lent

-- What the call `make` leaves, made of its answer and of all that it writes.
abbrev pub left : Answer Grade → List Float → ℕ → List Float → List ℕ → Left
left r b n f u = any.left r (lent b n f u)

-- 1 to 6 and 8, then 12 on an inexact field, then the record; past test 8 scratch ends as all zeros
unfoldable pub make_call : Field → List ℕ → List Float → ℕ → List Float → List ℕ → Left
make_call F s b n f u =
    called
    (usual Err (lent b n f u) (lent_tests F s (length b) (length f) (length u)) (stage Inexact (is_exact_of F) (lent b n (cleared zero64 f) (cleared 0 u)) ∷ [])
    (left (Ok (grade_of F)) (made F s).bounds (made F s).strict (cleared zero64 f) (cleared 0 u)))

-- The whole table of `make`: 1 to 6, 8 and 12.
abbrev pub make_table : Field → List ℕ → ℕ → ℕ → ℕ → List Test
make_table F s bounds floats words = lent_tests F s bounds floats words ++ test Inexact (is_exact_of F) ∷ []

-- the record that it leaves beside the values
abbrev pub record_left : Field → List ℕ → List Float → ℕ → List Float → List ℕ → Kept
record_left F s b n f u = kept s (make_call F s b n f u).lent.bounds (make_call F s b n f u).lent.strict

-- ---- the two operations: tests, then the record as it is changed; a refused operation changes nothing

-- An operation on the record: its tests, then the changed record; a refusal changes nothing.
abbrev pub operation : Kept → List Test → Kept → any.Left (Answer Unit) Kept
operation K tests K' = called (usual Err K tests [] (any.left passed K'))

-- What `pin` answers and leaves: the value in the values, and the record of the values then.
unfoldable pub pin_call : Field → Kept → ℕ → ℕ → any.Left (Answer Unit) Kept
pin_call F K i v = operation K (pin_tests F K.values (length K.bounds) i v) (pinned F i v K)

-- What `release` answers and leaves: the variable free, and the record of the values then.
unfoldable pub release_call : Field → Kept → ℕ → any.Left (Answer Unit) Kept
release_call F K i = operation K (release_tests F K.values (length K.bounds) i) (released F i K)

-- ---- the call that closes from the record

-- the run from the rows that stand in the record
unfoldable pub run_from : Field → List ℕ → List Float → Run
run_from F s b = propagate F s (rows_on b (variables F))

-- The answer of `close`, and afterwards the list of values and both scratches.
abbrev pub Closed : Type 0
Closed = any.Left (Answer Counted) values.Lent

-- What the call `close` leaves, made of its answer, the list of values and both scratches.
abbrev pub closed : Answer Counted → List ℕ → List Float → List ℕ → Closed
closed r l f u = any.left r (values.lent l f u)

-- 1 to 6 and 8, then 9 where the list is not n long, with the list all zeros, then the values and the count of flat rows
unfoldable pub close_call : Field → List ℕ → List Float → List ℕ → List Float → List ℕ → Closed
close_call F s b l f u =
    called
    (usual Err (values.lent l f u) (lent_tests F s (length b) (length f) (length u)) (stage Room (eqb (length l) (variables F)) (values.lent (cleared 0 l) (cleared zero64 f) (cleared 0 u)) ∷ [])
    (closed (counted_answer (grade_of F) (flat_rows (run_from F s b))) (run_from F s b).values (cleared zero64 f) (cleared 0 u)))

-- The whole table of `close`: 1 to 6, 8 and 9.
abbrev pub close_table : Field → List ℕ → ℕ → List ℕ → ℕ → ℕ → List Test
close_table F s bounds l floats words = lent_tests F s bounds floats words ++ test Room (eqb (length l) (variables F)) ∷ []
