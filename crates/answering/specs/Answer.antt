-- What the program answers to each input (rules 13.4 to 13.6), as one function of its bytes. Assumes nothing.
use Rattle.std.specs.Prelude.{ℕ, ◌≤◌, ◌≡◌, cond, ◌&&◌, List, eqb, length, take, Err, Ok}
use Rattle.field.specs.declared.Grade.TheVariants.{Exact}
use Rattle.field.specs.Answers.{number_of, Answer, passed}
use Rattle.field.specs.Field.{Field, field_of, variables, entries}
use Rattle.field.specs.Grade.{grade_of, unit_of, Serves}
use Rattle.field.specs.Reading.{whole_of}
use Rattle.field.specs.Table.{tested}
use Rattle.field.specs.Tests.{standard_tests}
use Rattle.meaning.specs.Gradient.{Forces}
use Rattle.meaning.specs.Steps.{Closure}
use Rattle.run.specs.Run.{closure}
use Rattle.text.specs.Text.{refused_text, answer_text}
use Rattle.records.specs.Told.{Told, field_told, Outcome, parsed}
use Rattle.records.specs.WellFormed.{WellFormed}

-- a refusal is `refused` and its number; otherwise the closure is run, and the grade and what was forced are shown
unfoldable pub checked_text : Answer Unit → Field → List ℕ → List ℕ
checked_text (Ok x) F s = answer_text (grade_of F) s (closure F s)
checked_text (Err r) F s = refused_text (number_of r)

-- the first of the tests 1 to 6 that fails decides
unfoldable pub field_text : Field → List ℕ → List ℕ
field_text F s = checked_text (tested (standard_tests F s)) F s

-- The text for what an input tells: its field and its start values.
abbrev pub told_text : Told → List ℕ
told_text t = field_text (field_told t) t.start

-- an input that is not well-formed is `refused 11`: no field stands at its front, or bytes follow the ZZ
abbrev pub outcome_text : ℕ → Outcome → List ℕ
outcome_text size o = cond (o.whole && eqb o.end size) (told_text o.told) (refused_text 11)

-- What the program prints for an input, as one function of the input's bytes.
unfoldable pub answer_bytes : List ℕ → List ℕ
answer_bytes s = outcome_text (length s) (parsed s)

-- ---- the same in the words of the meaning

-- a well-formed input has the text of what it tells, and any other is `refused 11`
pub record Answered (s text : List ℕ) : Type 0 where
  pub told : (u : Told) → WellFormed s u → text ≡ told_text u
  pub other : ((u : Told) → WellFormed s u → ⊥) → text ≡ refused_text 11

-- the text is `grade exact`, an x line for each variable that is free in the start values and has a value in their closure over whole numbers, and `end` with their count;
-- the smallest unit serves, and the closure is the same in every unit that does
pub record ShowsClosure (F : Field) (start text : List ℕ) : Type 0 where
  pub values : List ℕ
  pub unit_serves : Serves (unit_of F) F
  pub closes : (unit : ℕ) → Serves unit F → Closure (Forces (whole_of unit F)) start values
  pub shown : text ≡ answer_text Exact start values

-- ---- the memory that any input can need: 256 variables, 1,024 entries, and the longest text

-- 8 * 256 + 4 * 1024 + 16 floats, 16 * 256 + 8 * 1024 + 16 words, and 22 + 10 * 256 bytes of text
pub record Enough (f u out : ℕ) : Type 0 where
  pub floats : 6160 ≤ f
  pub words : 12304 ≤ u
  pub text : 2582 ≤ out

-- a field and its start values within these limits, and a byte for each value
pub record Fits (F : Field) (s : List ℕ) (values : ℕ) : Type 0 where
  pub few_variables : variables F ≤ 256
  pub few_entries : entries F ≤ 1024
  pub start_long : length s ≡ variables F
  pub values_long : values ≡ variables F

-- ---- the field at the front of the lists

-- The first n places of two lists and the first m of three are there, within the limits: each part is as long as its count.
pub record Fronted (n m : ℕ) (p : Told) : Type 0 where
  pub few_variables : n ≤ 256
  pub few_entries : m ≤ 1024
  pub linear : n ≡ length (take n p.linear)
  pub rows : m ≡ length (take m p.rows)
  pub cols : m ≡ length (take m p.cols)
  pub quad : m ≡ length (take m p.quad)
  pub start : n ≡ length (take n p.start)

-- The field at the front of the lists.
abbrev pub front_field : ℕ → ℕ → Told → Field
front_field n m p = field_of (take n p.linear) (take m p.rows) (take m p.cols) (take m p.quad)
