-- What a field was exact by before there were units: counted in halves (rule 2.9). Assumes nothing.
use Rattle.std.specs.Prelude.{ℕ, ◌<◌, ◌^◌, T}
use Rattle.std.specs.Float.{binary64}
use Rattle.weights.specs.Counts.{whole_in}
use Rattle.field.specs.Field.{Field, variables, entries, linear_of, quad_of, Standard}
use Rattle.field.specs.Grade.{Weighs}

-- in standard form, with every 2c and every q whole and every |c| and |q| at most 2^31
pub record InHalves (F : Field) : Type 0 where
  pub standard : Standard F
  pub linear : (i : ℕ) → i < variables F → Weighs 1073 (2 ^ 32) (linear_of F i)
  pub quad : (k : ℕ) → k < entries F → Weighs 1074 (2 ^ 31) (quad_of F k)

-- every |c| is at most 2^30
abbrev pub Low : Field → Type 0
Low F = (i : ℕ) → i < variables F → Weighs 1073 (2 ^ 31) (linear_of F i)

-- every 2c and every q is even
pub record Even (F : Field) : Type 0 where
  pub linear : (i : ℕ) → i < variables F → T (whole_in binary64 1074 (linear_of F i))
  pub quad : (k : ℕ) → k < entries F → T (whole_in binary64 1075 (quad_of F k))
