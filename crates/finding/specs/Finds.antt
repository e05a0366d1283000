-- What both probes of one candidate find of every other free variable: probe values and constraints. Executable on every field. Assumes nothing.
use Rattle.std.specs.Prelude.{ℕ, zero, suc, cond, List, [], ◌∷◌, eqb, ltb, length, get_or, replicate}
use Rattle.meaning.specs.Records.{Record, record_of}
use Rattle.constraints.specs.Keys.{key_of}
use Rattle.field.specs.Field.{Field, variables}
use Rattle.rows.specs.Stored.{up_to}
use Rattle.probe.specs.Call.{new_at, Route, cold}
use Rattle.probe.specs.Found.{Finding, nothing, value, constraint, found}

-- ---- a finding

-- the record of a found constraint is one more
unfoldable pub added : Finding → List Record → List Record
added nothing l = l
added (value w) l = l
added (constraint c) l = record_of c ∷ l

-- a found value takes the place of an earlier one (rule 7.5)
unfoldable pub wins : Finding → ℕ → ℕ
wins nothing old = old
wins (value w) old = w
wins (constraint c) old = old

-- the number that is gathered, 2^28 where there is no constraint
unfoldable pub number_of : Finding → ℕ
number_of nothing = 268435456
number_of (value w) = 268435456
number_of (constraint c) = key_of (record_of c)

-- how many records a gathered number stands for
unfoldable pub count_of : ℕ → ℕ
count_of k = cond (ltb k 268435456) 1 0

-- ---- one candidate

-- what the probe of i gives j, where the start value is s and the probe leaves v: nothing to i itself, and nothing where j is given
unfoldable pub gives_at : ℕ → ℕ → ℕ → ℕ → ℕ
gives_at i j s v = cond (eqb i j) 2 (new_at s v)

-- what is found of j, where the probe of i at 0 leaves t and that at 1 leaves t'
unfoldable pub finding_of : List ℕ → ℕ → List ℕ → List ℕ → ℕ → Finding
finding_of s i t t' j = found i j (gives_at i j (get_or s j 0) (get_or t j 0)) (gives_at i j (get_or s j 0) (get_or t' j 0))

-- what is found of j by the probes of i, worked by the route R
unfoldable pub finding_by : Route → Field → List ℕ → ℕ → ℕ → Finding
finding_by R F s i j = finding_of s i (R F s i 0) (R F s i 1) j

-- by the cold route, the closure of the start values with the one value added
abbrev pub finding : Field → List ℕ → ℕ → ℕ → Finding
finding = finding_by cold

-- the records of what is found of the variables below k, before those in l
unfoldable pub records_to : (ℕ → Finding) → List Record → ℕ → List Record
records_to g l zero = l
records_to g l (suc k) = added (g k) (records_to g l k)

-- The probe values after the findings g, where they were `old` before.
unfoldable pub values_after : (ℕ → Finding) → List ℕ → List ℕ
values_after g old = up_to (λ j. wins (g j) (get_or old j 0)) (length old)

-- ---- the first k candidates of a list, one after the other

-- The records of the constraints that the first k candidates find by the route R, later ones in front.
unfoldable pub records_found_by : Route → Field → List ℕ → List ℕ → ℕ → List Record
records_found_by R F s cands zero = []
records_found_by R F s cands (suc k) = records_to (finding_by R F s (get_or cands k 0)) (records_found_by R F s cands k) (variables F)

-- The records of the constraints that the first k candidates find, with rows made afresh for each probe.
abbrev pub records_of : Field → List ℕ → List ℕ → ℕ → List Record
records_of = records_found_by cold

-- 2 stands where no value is found
unfoldable pub values_found_by : Route → Field → List ℕ → List ℕ → ℕ → List ℕ
values_found_by R F s cands zero = replicate (variables F) 2
values_found_by R F s cands (suc k) = values_after (finding_by R F s (get_or cands k 0)) (values_found_by R F s cands k)

-- The probe values after the first k candidates, with rows made afresh for each probe.
abbrev pub values_of : Field → List ℕ → List ℕ → ℕ → List ℕ
values_of = values_found_by cold
