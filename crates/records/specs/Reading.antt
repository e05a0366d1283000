-- The record that stands at an index of the input (rule 13.1). Assumes nothing.
use Rattle.std.specs.Prelude.{ℕ, ◌+◌, ◌-◌, cond, List, leb, eqb, length, get_or}
use Rattle.endian.specs.Bytes.{number_at, float_at}
use Rattle.records.specs.declared.Cursor.{Cursor}
use Rattle.records.specs.declared.Record.{Record}
use Rattle.records.specs.declared.Record.TheVariants.{Weight, Entry, Given, End, Malformed}

-- The letters VC as a little-endian number: the mark before a linear weight.
abbrev pub mark_vC : ℕ
mark_vC = 0x4356

-- The letters QE as a little-endian number: the mark before an entry.
abbrev pub mark_qE : ℕ
mark_qE = 0x4551

-- The letters FX as a little-endian number: the mark before a start value.
abbrev pub mark_fX : ℕ
mark_fX = 0x5846

-- The letters ZZ as a little-endian number: the mark of the end.
abbrev pub mark_zZ : ℕ
mark_zZ = 0x5a5a

-- A place in the input, made of the index of the byte at which it stands.
abbrev pub cursor : ℕ → Cursor
cursor at = record { at = at }

-- a record of k bytes, unless the input is cut before its end
abbrev pub whole : ℕ → List ℕ → ℕ → Record → Record
whole k s at r = cond (leb k (length s - at)) r Malformed

-- The record VC at an index: the next linear weight, an f64.
unfoldable pub weight_at : List ℕ → ℕ → Record
weight_at s at = whole 10 s at (Weight (float_at s (at + 2)) (cursor (at + 10)))

-- The record QE at an index: an entry, u16 row, u16 column and f64.
unfoldable pub entry_at : List ℕ → ℕ → Record
entry_at s at = whole 14 s at (Entry (number_at 2 s (at + 2)) (number_at 2 s (at + 4)) (float_at s (at + 6)) (cursor (at + 14)))

-- The record FX at an index: a start value, u16 variable and one byte.
unfoldable pub given_at : List ℕ → ℕ → Record
given_at s at = whole 5 s at (Given (number_at 2 s (at + 2)) (get_or s (at + 4) 0) (cursor (at + 5)))

-- The record at an index by its mark; malformed where the mark is none of the four.
unfoldable pub marked_at : ℕ → List ℕ → ℕ → Record
marked_at mark s at =
    cond (eqb mark mark_vC) (weight_at s at)
    (cond (eqb mark mark_qE) (entry_at s at)
    (cond (eqb mark mark_fX) (given_at s at)
    (cond (eqb mark mark_zZ) (End (cursor (at + 2))) Malformed)))

-- The record at an index of the input; malformed where it has no mark or is cut before its end.
unfoldable pub read_at : List ℕ → ℕ → Record
read_at s at = whole 2 s at (marked_at (number_at 2 s at) s at)
