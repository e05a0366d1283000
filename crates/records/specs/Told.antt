-- What records tell, one after another (rules 13.1 to 13.3). Assumes nothing.
use Rattle.std.specs.Prelude.{ℕ, zero, suc, Bool, true, false, ◌&&◌, cond, List, [], ◌∷◌, ◌++◌, ltb, length, set, Float}
use Rattle.meaning.specs.Free.{is_free}
use Rattle.field.specs.Field.{Field, field_of}
use Rattle.records.specs.Reading.{read_at}
use Rattle.records.specs.declared.Record.{Record}
use Rattle.records.specs.declared.Record.TheVariants.{Weight, Entry, Given, End, Malformed}

-- a field's lists and its start values
pub record Told : Type 0 where
  pub linear : List Float
  pub rows : List ℕ
  pub cols : List ℕ
  pub quad : List Float
  pub start : List ℕ

-- The field that the records of an input tell, without its start values.
abbrev pub field_told : Told → Field
field_told t = field_of t.linear t.rows t.cols t.quad

-- What is told before the first record: no variable and no entry.
abbrev pub nothing : Told
nothing = record { linear = []; rows = []; cols = []; quad = []; start = [] }

-- the next linear weight; its variable is free
abbrev pub with_weight : Float → Told → Told
with_weight x t = record { linear = t.linear ++ x ∷ []; rows = t.rows; cols = t.cols; quad = t.quad; start = t.start ++ 2 ∷ [] }

-- What is told, with one entry more: its row, its column and its pair weight.
abbrev pub with_entry : ℕ → ℕ → Float → Told → Told
with_entry row col x t = record { linear = t.linear; rows = t.rows ++ row ∷ []; cols = t.cols ++ col ∷ []; quad = t.quad ++ x ∷ []; start = t.start }

-- What is told, with the start value b for variable v in place of free.
abbrev pub with_given : ℕ → ℕ → Told → Told
with_given v b t = record { linear = t.linear; rows = t.rows; cols = t.cols; quad = t.quad; start = set t.start v b }

-- Whether one variable more may be declared: up to 256 in all.
abbrev pub may_declare : ℕ → Bool
may_declare variables = ltb variables 256

-- Whether one entry more may be told by the records: up to 1,024 in all.
abbrev pub may_enter : ℕ → Bool
may_enter entries = ltb entries 1024

-- a declared variable, not given yet, and 0 or 1
abbrev pub may_give : ℕ → ℕ → ℕ → List ℕ → Bool
may_give v b variables start = ltb v variables && (is_free start v && ltb b 2)

-- whether a field was read up to its ZZ, the index behind that, and what was told; at the first fault what was told before it, and the index 0
pub record Outcome : Type 0 where
  pub whole : Bool
  pub told : Told
  pub end : ℕ

-- The outcome of a reading, made of whether a field was read, what was told and the index behind it.
abbrev pub outcome : Bool → Told → ℕ → Outcome
outcome b t end = record { whole = b; told = t; end = end }

-- after a record: what is told so far and where the next one stands, or what was read
pub data Turned : Type 0 where
  more : Told → ℕ → Turned
  ended : Bool → Told → ℕ → Turned

-- The reading ends at a record that is not well-formed or not allowed: no field was read.
abbrev pub fault : Told → Turned
fault t = ended false t 0

-- What one record adds to what is told, or the end: a record that is not allowed is a fault.
unfoldable pub taken : Record → Told → Turned
taken (Weight x next) t = cond (may_declare (length t.linear)) (more (with_weight x t) next.at) (fault t)
taken (Entry row col x next) t = cond (may_enter (length t.quad)) (more (with_entry row col x t) next.at) (fault t)
taken (Given v b next) t = cond (may_give v b (length t.linear) t.start) (more (with_given v b t) next.at) (fault t)
taken (End next) t = ended true t next.at
taken Malformed t = fault t

-- What is read on after a record, where the reading goes on, and the outcome where it has ended.
abbrev pub following : (ℕ → Told → Outcome) → Turned → Outcome
following read (more t at) = read at t
following read (ended b t end) = outcome b t end

-- reading on from an index, k records at most; each has two bytes at least, so as many as there are bytes are enough
unfoldable pub read_from : ℕ → List ℕ → ℕ → Told → Outcome
read_from zero s at t = outcome false t 0
read_from (suc k) s at t = following (read_from k s) (taken (read_at s at) t)

-- the field at the front of the input, up to the first ZZ
unfoldable pub parsed : List ℕ → Outcome
parsed s = read_from (suc (length s)) s 0 nothing
