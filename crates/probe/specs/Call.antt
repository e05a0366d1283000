-- What a single probe answers and leaves, by either route, as one function of what it is given, for every input. Assumes nothing.
use Rattle.std.specs.Prelude.{ℕ, ◌<◌, ◌≤◌, ◌≡◌, Bool, cond, ◌&&◌, List, [], ◌∷◌, ◌++◌, eqb, ltb, leb, length, get_or, set, Float, Ok, Err}
use Rattle.weights.specs.Worth.{zero64}
use Rattle.scratch.specs.Cleared.{cleared}
use Rattle.meaning.specs.Field as meaning
use Rattle.meaning.specs.Free.{is_free}
use Rattle.meaning.specs.Probe.{Probed}
use Rattle.field.specs.declared.Refusal.TheVariants.{Argument, Scratch, Room}
use Rattle.field.specs.Field.{Field, variables, entries}
use Rattle.field.specs.Table.{Test, test}
use Rattle.field.specs.Tests.{standard_tests, floats_fit, words_fit, Ready}
use Rattle.field.specs.Grade.{grade_of}
use Rattle.calls.specs.Call.{called, stage, usual}
use Rattle.calls.specs.Values as values
use Rattle.calls.specs.Values.{lent}
use Rattle.rows.specs.Stored.{up_to}
use Rattle.run.specs.Run.{closure}
use Rattle.field.specs.Answers.{Answer}
use Rattle.field.specs.declared.Grade.{Grade}

-- ---- the tests

-- 7: the probed variable is not below n or not free, or the value is above 1 (rule 7.1)
unfoldable pub may_probe : ℕ → List ℕ → ℕ → ℕ → Bool
may_probe n s i v = ltb i n && (is_free s i && leb v 1)

-- The tests of a single probe: 1 to 6, then 7 of variable and value, then 8.
unfoldable pub probe_tests : Field → List ℕ → ℕ → ℕ → ℕ → ℕ → List Test
probe_tests F s i v floats words =
    standard_tests F s
    ++ test Argument (may_probe (variables F) s i v)
    ∷ test Scratch (floats_fit (variables F) (entries F) floats)
    ∷ test Scratch (words_fit (variables F) (entries F) words)
    ∷ []

-- 1 to 8, and 9: the list of values is not n long
unfoldable pub probe_table : Field → List ℕ → ℕ → ℕ → List ℕ → ℕ → ℕ → List Test
probe_table F s i v t floats words = probe_tests F s i v floats words ++ test Room (eqb (length t) (variables F)) ∷ []

-- What passing 1 to 8 leaves: a ready field, a free variable below n, and a value of 0 or 1.
pub record Probable (F : Field) (s : List ℕ) (i v floats words : ℕ) : Type 0 where
  pub ready : Ready F s floats words
  pub below : i < variables F
  pub free : get_or s i 0 ≡ 2
  pub small : v ≤ 1

-- ---- the values

-- what is found where the start value is s: 2 for none, and nothing where it is not free
unfoldable pub new_at : ℕ → ℕ → ℕ
new_at s v = cond (eqb s 2) v 2

-- The values that a probe finds, without the start values: 2 where the start value is not free.
unfoldable pub new_only : List ℕ → List ℕ → List ℕ
new_only s t = up_to (λ j. new_at (get_or s j 0) (get_or t j 0)) (length s)

-- a route: from a field, the start values, a variable and a value to the values that the probe leaves, the start values among them
abbrev pub Route : Type 0
Route = Field → List ℕ → ℕ → ℕ → List ℕ

-- the cold route: the rows of the start values with the one value set, then the run (rule 7.2)
abbrev pub cold : Route
cold F s i v = closure F (set s i v)

-- what a single probe by the route R gives
unfoldable pub given_by : Route → Field → List ℕ → ℕ → ℕ → List ℕ
given_by R F s i v = new_only s (R F s i v)

-- the closure of the start values with the one value added, without the start values
abbrev pub probe_one : Field → List ℕ → ℕ → ℕ → List ℕ
probe_one = given_by cold

-- on exact fields: t is the whole-number closure of the start values with the one value added, without the start values
pub record Gives (G : meaning.Field) (s : List ℕ) (i v : ℕ) (t : List ℕ) : Type 0 where
  pub closed : List ℕ
  pub is_closure : Probed G s i v closed
  pub without : t ≡ new_only s closed

-- ---- the call

-- the answer, and the three lent lists afterwards: the list of values, and both scratches
abbrev pub Left : Type 0
Left = values.Left

-- What a single probe leaves, made of its answer, the list of values and both scratches.
abbrev pub left : Answer Grade → List ℕ → List Float → List ℕ → Left
left r t f u = values.left r t f u

-- tests 1 to 8, then 9, then the probe of i at v; t is the list that the values go into: 9 where it is not n long, and then it is
-- all zeros; past test 8 scratch ends as zeros
unfoldable pub probe_one_by : Route → Field → List ℕ → ℕ → ℕ → List ℕ → List Float → List ℕ → Left
probe_one_by R F s i v t f u =
    called
    (usual Err (lent t f u) (probe_tests F s i v (length f) (length u)) (stage Room (eqb (length t) (variables F)) (lent (cleared 0 t) (cleared zero64 f) (cleared 0 u)) ∷ [])
    (left (Ok (grade_of F)) (given_by R F s i v) (cleared zero64 f) (cleared 0 u)))

-- the calls `probe_one` and `cold_probe_one`
abbrev pub probe_one_call : Field → List ℕ → ℕ → ℕ → List ℕ → List Float → List ℕ → Left
probe_one_call = probe_one_by cold
