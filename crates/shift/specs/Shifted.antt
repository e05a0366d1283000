-- The field that a shift leaves, and the weights of which its sums are exact. Assumes nothing.
use Rattle.std.specs.Prelude.{ℕ, suc, ◌<◌, ◌^◌, take}
use Rattle.field.specs.Field.{Field, field_of, variables, entries, linear_of, quad_of}
use Rattle.field.specs.Grade.{Weighs}
use Rattle.shift.specs.Closing.{closed}

-- the field of the first m entries of four lists
abbrev pub first_entries : ℕ → Field → Field
first_entries m G = field_of G.linear (take m G.rows) (take m G.cols) (take m G.quad)

-- the new field: the entries at the front, as many as are answered
abbrev pub shifted : Field → Field
shifted F = first_entries (closed F).kept (closed F).lists

-- 2c and q are whole numbers of the unit whose half is u, at most 2^32 and 2^31 of it either way, with a diagonal or without: the half of every unit that serves is such a u
pub record WholeIn (u : ℕ) (F : Field) : Type 0 where
  pub linear : (i : ℕ) → i < variables F → Weighs u (2 ^ 32) (linear_of F i)
  pub quad : (k : ℕ) → k < entries F → Weighs (suc u) (2 ^ 31) (quad_of F k)
