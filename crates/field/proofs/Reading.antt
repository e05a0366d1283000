-- An exact field is the field of whole numbers that is read from it. Assumes nothing.
use Prim.Native.Nat.{ℕ, suc, ◌<◌, ◌^◌}
use Rattle.whole.specs.Whole.{Under}
use Rattle.meaning.specs.Field as meaning
use Rattle.weights.specs.Worth.{Worth}
use Rattle.field.specs.Field.{Field, variables, entries, linear_of, quad_of, Shaped, Standard}
use Rattle.field.specs.Grade.{ExactIn}
use Rattle.field.specs.Reading.{whole_of}
use Rattle.field.proofs.Exact.{weighs_read, weighs_under}

-- each weight is worth what is read of it, and both sides of that are at most 2^31
module _ {u : ℕ} {F : Field} (x : ExactIn u F) where
  -- Theorem. Each c is worth what is read of it, in whole half units.
  pub linear_worth : (i : ℕ) → i < variables F → Worth u (linear_of F i) ((whole_of u F).linear i)
  linear_worth i h = weighs_read (x.linear i h)

  -- Theorem. Both sides of what is read of c are at most 2^31.
  pub linear_under : (i : ℕ) → i < variables F → Under (2 ^ 31) ((whole_of u F).linear i)
  linear_under i h = weighs_under (x.linear i h)

  -- Theorem. Each q is worth what is read of it, in whole units.
  pub quad_worth : (k : ℕ) → k < entries F → Worth (suc u) (quad_of F k) ((whole_of u F).weight k)
  quad_worth k h = weighs_read (x.quad k h)

  -- Theorem. Both sides of what is read of q are at most 2^31.
  pub quad_under : (k : ℕ) → k < entries F → Under (2 ^ 31) ((whole_of u F).weight k)
  quad_under k h = weighs_under (x.quad k h)

-- it is in standard form where the field is, and its entries' ends are variables
pub whole_standard : (u : ℕ) (F : Field) → Standard F → meaning.Standard (whole_of u F)
whole_standard u F st = st

pub whole_within : (u : ℕ) {F : Field} → Shaped F → meaning.Within (whole_of u F)
whole_within u sh k h = (sh.row_below k h, sh.column_below k h)
