-- What the call `mend` answers and leaves, as one function of what it is given, for every input. Assumes nothing.
use Rattle.std.specs.Prelude.{ℕ, ◌+◌, ◌*◌, ◌/◌, ◌≤◌, ◌≡◌, Bool, true, List, [], ◌∷◌, ◌++◌, leb, length, take, Float, Err}
use Rattle.weights.specs.Worth.{zero64}
use Rattle.scratch.specs.Cleared.{cleared}
use Rattle.scratch.specs.Over.{over}
use Rattle.field.specs.declared.Refusal.TheVariants.{Variables, Lists, Weights, Scratch, Room, Sum}
use Rattle.field.specs.Answers.{Answer}
use Rattle.field.specs.Field.{Field, field_of, variables, entries}
use Rattle.field.specs.Faults.{Listed}
use Rattle.field.specs.Table.{Test, test}
use Rattle.field.specs.Tests.{few_variables, lists_match, weights_finite, floats_fit, words_fit, Finite}
use Rattle.field.specs.Grade.{grade_of}
use Rattle.calls.specs.Call as any
use Rattle.calls.specs.Call.{called, stage, usual}
use Rattle.mending.specs.Places.{sums_finite, mended}
use Rattle.mending.specs.Changes.{changes_of, numbered}
use Rattle.mend.specs.declared.Mended.{Mended}
use Rattle.mend.specs.Answers.{mended_answer}

-- 1, 2 and 5, then 18 where the sum at some place is not finite, each over the whole input
unfoldable pub sum_tests : Field → List Test
sum_tests F =
    test Variables (few_variables (variables F))
    ∷ test Lists (lists_match F.rows F.cols F.quad)
    ∷ test Weights (weights_finite F.linear F.quad)
    ∷ test Sum (sums_finite F)
    ∷ []

-- The tests of `mend`: those of the sums, and then 8, with the m of the input.
unfoldable pub mend_tests : Field → ℕ → ℕ → List Test
mend_tests F floats words =
    sum_tests F ++ test Scratch (floats_fit (variables F) (entries F) floats) ∷ test Scratch (words_fit (variables F) (entries F) words) ∷ []

-- What passing 1, 2, 5, 18 and 8 leaves: matching lists, finite weights and sums, and room in both scratches.
pub record Mendable (F : Field) (floats words : ℕ) : Type 0 where
  pub listed : Listed F
  pub finite_weights : Finite F
  pub finite_sums : sums_finite F ≡ true
  pub floats_room : 8 * variables F + 4 * entries F + 16 ≤ floats
  pub words_room : 16 * variables F + 8 * entries F + 16 ≤ words

-- 9: the report has room for all changes, three numbers each
unfoldable pub fits : Field → List ℕ → Bool
fits F report = leb (length (changes_of F)) (length report / 3)

-- the whole table: 1, 2, 5, 18, 8 and 9
unfoldable pub mend_table : Field → List ℕ → ℕ → ℕ → List Test
mend_table F report floats words = mend_tests F floats words ++ test Room (fits F report) ∷ []

-- the six lent lists; c is only read
pub record Lent : Type 0 where
  pub rows : List ℕ
  pub cols : List ℕ
  pub quad : List Float
  pub report : List ℕ
  pub floats : List Float
  pub words : List ℕ

-- The lent lists of `mend` in one record: rows, columns, pair weights, the report, floats and words.
abbrev pub lent : List ℕ → List ℕ → List Float → List ℕ → List Float → List ℕ → Lent
lent rows cols q report f u = record { rows = rows; cols = cols; quad = q; report = report; floats = f; words = u }

-- the answer, and the six lent lists afterwards
abbrev pub Left : Type 0
Left = any.Left (Answer Mended) Lent

-- What the call `mend` leaves, made of its answer and its six lent lists.
abbrev pub left : Answer Mended → List ℕ → List ℕ → List Float → List ℕ → List Float → List ℕ → Left
left r rows cols q report f u = any.left r (lent rows cols q report f u)

-- 1, 2, 5, 18 and 8, then room, then the mended list, with zeros behind the new m; every refusal but 9 changes nothing, and 9 leaves the
-- entries as they were and the report all zeros; the grade is of the mended field, and what stands behind the last change is as it was
unfoldable pub mend_call : Field → List ℕ → List Float → List ℕ → Left
mend_call F report f u =
    called
    (usual Err (lent F.rows F.cols F.quad report f u) (mend_tests F (length f) (length u))
    (stage Room (fits F report) (lent F.rows F.cols F.quad (cleared 0 report) (cleared zero64 f) (cleared 0 u)) ∷ [])
    (left
    (mended_answer (grade_of (mended F)) (entries (mended F)) (length (changes_of F)))
    (over (mended F).rows (cleared 0 F.rows))
    (over (mended F).cols (cleared 0 F.cols))
    (over (mended F).quad (cleared zero64 F.quad))
    (over (numbered (changes_of F)) report)
    (cleared zero64 f)
    (cleared 0 u)))

-- the field of the first m entries
abbrev pub first_of : ℕ → Field → Field
first_of m F = field_of F.linear (take m F.rows) (take m F.cols) (take m F.quad)

-- The field of the first m entries that a call leaves, with the linear weights c.
abbrev pub field_left : List Float → ℕ → Left → Field
field_left c m x = first_of m (field_of c x.lent.rows x.lent.cols x.lent.quad)
