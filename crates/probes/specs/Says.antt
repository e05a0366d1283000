-- What an answer of the probe calls says, and how what they leave is read. Assumes nothing.
use Rattle.std.specs.Prelude.{ℕ, ◌≤◌, ◌≡◌, length, get_or, take, Float}
use mathlib.Core.List.{List, Memᴰ}
use Rattle.meaning.specs.Kinds.{Pair}
use Rattle.meaning.specs.Records.{Record, pairs_in}
use Rattle.constraints.specs.Record.{room, records}
use Rattle.field.specs.declared.Grade.{Grade}
use Rattle.field.specs.Field.{Field, variables}
use Rattle.field.specs.Tests.{Ready}
use Rattle.field.specs.Grade.{grade_of}
use Rattle.probes.specs.Call.{all_records, Left}

-- The first `items` records of the list of constraints that a probe of many leaves.
abbrev pub listed : ℕ → Left → List Record
listed items x = take items (records x.lent.constraints)

-- The value for variable j that a probe of many leaves in the list of values.
abbrev pub value_at : ℕ → Left → ℕ
value_at j x = get_or x.lent.values j 0

-- When a probe of many is done, and with what: every test passes, and the answer is grade and count.
pub record DoneSays (F : Field) (s cands t k : List ℕ) (f : List Float) (u : List ℕ) (g : Grade) (items : ℕ) : Type 0 where
  pub ready : Ready F s (length f) (length u)
  pub values_long : length t ≡ variables F
  pub enough : length (all_records F s cands) ≤ room k
  pub graded : g ≡ grade_of F
  pub counted : items ≡ length (all_records F s cands)

-- two results agree but for the probe values, where the later of two candidates wins
pub record SameButValues (x y : Left) : Type 0 where
  pub answers : x.answer ≡ y.answer
  pub lists : x.lent.constraints ≡ y.lent.constraints
  pub both_floats : x.lent.floats ≡ y.lent.floats
  pub both_words : x.lent.words ≡ y.lent.words

-- x is kept or enlarged in l: a record of l on the variables of x forbids every pair that x forbids
pub record KeptIn (l : List Record) (x : Record) : Type 0 where
  pub by : Record
  pub among : Memᴰ by l
  pub same_lower : x.lower ≡ by.lower
  pub same_higher : x.higher ≡ by.higher
  pub pairs : (p : Pair) → Memᴰ p (pairs_in x.set) → Memᴰ p (pairs_in by.set)
