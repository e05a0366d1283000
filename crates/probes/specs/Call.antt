-- What the probes of many candidates answer and leave, by either route, as one function of what they are given, for every input. Assumes nothing.
use Rattle.std.specs.Prelude.{ℕ, Bool, ◌&&◌, List, [], ◌∷◌, ◌++◌, eqb, leb, length, take, Float, Err}
use Rattle.weights.specs.Worth.{zero64}
use Rattle.scratch.specs.Cleared.{cleared}
use Rattle.meaning.specs.Free.{free_to}
use Rattle.meaning.specs.Records.{Record}
use Rattle.meaning.specs.Rising.{merged_list}
use Rattle.constraints.specs.Record.{room, filled}
use Rattle.field.specs.declared.Counted.{Counted}
use Rattle.field.specs.declared.Refusal.TheVariants.{Room}
use Rattle.field.specs.Field.{Field, variables}
use Rattle.field.specs.Table.{Test, test}
use Rattle.field.specs.Tests.{ready_tests}
use Rattle.field.specs.Grade.{grade_of}
use Rattle.calls.specs.Call as any
use Rattle.calls.specs.Call.{Stage, stage, called, usual}
use Rattle.ranking.specs.Ranking.{ranks}
use Rattle.probe.specs.Call.{Route, cold}
use Rattle.finding.specs.Finds.{records_found_by, values_found_by}
use Rattle.field.specs.Answers.{Answer, counted_answer}

-- ---- what the candidates find

-- the records of all candidates, merged by pair, rising
unfoldable pub all_records_by : Route → Field → List ℕ → List ℕ → List Record
all_records_by R F s cands = merged_list (records_found_by R F s cands (length cands))

-- The records that a list of candidates finds, merged by pair, with rows made afresh for each probe.
abbrev pub all_records : Field → List ℕ → List ℕ → List Record
all_records = all_records_by cold

-- the values of all candidates; where two give one variable a value, the later one's stays (rule 7.5)
unfoldable pub all_values_by : Route → Field → List ℕ → List ℕ → List ℕ
all_values_by R F s cands = values_found_by R F s cands (length cands)

-- The probe values that a list of candidates finds, with rows made afresh for each probe.
abbrev pub all_values : Field → List ℕ → List ℕ → List ℕ
all_values = all_values_by cold

-- ---- the call

-- What is lent to a probe of many: the values, the constraints, the floats and the words.
pub record Lent : Type 0 where
  pub values : List ℕ
  pub constraints : List ℕ
  pub floats : List Float
  pub words : List ℕ

-- The lent lists of a probe of many in one record: the values, the constraints, the floats and the words.
abbrev pub lent : List ℕ → List ℕ → List Float → List ℕ → Lent
lent t k f u = record { values = t; constraints = k; floats = f; words = u }

-- The answer of a probe of many candidates, and its four lent lists afterwards.
abbrev pub Left : Type 0
Left = any.Left (Answer Counted) Lent

-- What a probe of many candidates leaves, made of its answer and its four lent lists.
abbrev pub left : Answer Counted → List ℕ → List ℕ → List Float → List ℕ → Left
left r t k f u = any.left r (lent t k f u)

-- 9 exactly where the list of values is not n long or the merged records have no room (rule 7.8)
unfoldable pub fits_by : Route → Field → List ℕ → List ℕ → List ℕ → List ℕ → Bool
fits_by R F s cands t k = eqb (length t) (variables F) && leb (length (all_records_by R F s cands)) (room k)

-- Whether both answer lists have room for what the candidates find, with rows made afresh.
abbrev pub fits : Field → List ℕ → List ℕ → List ℕ → List ℕ → Bool
fits = fits_by cold

-- The whole table of a probe of many candidates: 1 to 6 and 8, then 9.
unfoldable pub candidates_table : Field → List ℕ → List ℕ → List ℕ → List ℕ → ℕ → ℕ → List Test
candidates_table F s cands t k floats words = ready_tests F s floats words ++ test Room (fits F s cands t k) ∷ []

-- on 9 both lists are all zeros
abbrev pub later_by : Route → Field → List ℕ → List ℕ → List ℕ → List ℕ → List Float → List ℕ → List (Stage Lent)
later_by R F s cands t k f u = stage Room (fits_by R F s cands t k) (lent (cleared 0 t) (cleared 0 k) (cleared zero64 f) (cleared 0 u)) ∷ []

-- on 0 what stands behind the last record is as it was; past test 8 scratch ends as zeros
abbrev pub result_by : Route → Field → List ℕ → List ℕ → List ℕ → List Float → List ℕ → Left
result_by R F s cands k f u =
    left (counted_answer (grade_of F) (length (all_records_by R F s cands))) (all_values_by R F s cands) (filled (all_records_by R F s cands) k) (cleared zero64 f) (cleared 0 u)

-- The call over any list of candidates, by the route R: its tests, room, and what they find.
unfoldable pub candidates_by : Route → Field → List ℕ → List ℕ → List ℕ → List ℕ → List Float → List ℕ → Left
candidates_by R F s cands t k f u =
    called (usual Err (lent t k f u) (ready_tests F s (length f) (length u)) (later_by R F s cands t k f u) (result_by R F s cands k f u))

-- The call over any list of candidates, with rows made afresh for each probe.
abbrev pub candidates_call : Field → List ℕ → List ℕ → List ℕ → List ℕ → List Float → List ℕ → Left
candidates_call = candidates_by cold

-- The call `probe` by the route R: every free variable is a candidate.
unfoldable pub probe_by : Route → Field → List ℕ → List ℕ → List ℕ → List Float → List ℕ → Left
probe_by R F s t k f u = candidates_by R F s (free_to s (variables F)) t k f u

-- the calls `probe` and `cold_probe`
abbrev pub probe_call : Field → List ℕ → List ℕ → List ℕ → List Float → List ℕ → Left
probe_call = probe_by cold

-- the first of the free variables up to the limit, by falling edge mass, then rising index (rule 7.6)
unfoldable pub probe_limited_by : Route → Field → List ℕ → ℕ → List ℕ → List ℕ → List Float → List ℕ → Left
probe_limited_by R F s limit t k f u = candidates_by R F s (take limit (ranks F s)) t k f u

-- the calls `probe_limited` and `cold_probe_limited`
abbrev pub probe_limited_call : Field → List ℕ → ℕ → List ℕ → List ℕ → List Float → List ℕ → Left
probe_limited_call = probe_limited_by cold
