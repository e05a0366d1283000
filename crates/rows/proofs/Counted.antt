-- THE ROW LAW: on an exact field a row is worth low and high of the field in whole numbers. Assumes nothing.
use mathlib.Core.Path.{◌≡◌}
use mathlib.Core.List.{List}
use Prim.Native.Nat.{ℕ, zero, suc, ◌^◌, ◌≤◌, ◌<◌}
use native.Mathlib.Omega.{arith}
use lib.ListN.{get_or}
use lib.Dec.{eqb, ltb}
use lib.Ieee.{lt}
use Rattle.whole.specs.Whole.{Whole, sum, min0, max0, Under}
use Rattle.whole.proofs.Sums.{only_under}
use Rattle.weights.specs.Worth.{Worth, zero64}
use Rattle.weights.proofs.Worth.{half_worth, as_worth, above_zero, below_zero}
use Rattle.meaning.specs.Gradient.{View, view, low, high, verdict}
use Rattle.meaning.proofs.Views.{reach, min0_under, max0_under, share_under}
use Rattle.field.specs.Field.{Field, variables, entries, row_end, column_end, Shaped, StartFor}
use Rattle.field.specs.Grade.{ExactIn}
use Rattle.field.proofs.Exact.{weighs_read, weighs_under}
use Rattle.rows.specs.Row.{judge_of, value_of}
use Rattle.rows.specs.Model.{coeff_of, at_entry, row_to, row_of}
use Rattle.field.specs.Reading.{whole_of}
use Rattle.rows.specs.Counted.{RowWorth}
pub use Rattle.rows.specs.Counted.{bound_to}
use Rattle.rows.proofs.Terms.{as_row, end_worth, value_worth}

module _ {u : ℕ} {F : Field} (exact : ExactIn u F) where
  pub coeff_worth : (k : ℕ) → k < entries F → Worth u (coeff_of F k) ((whole_of u F).weight k)
  coeff_worth k h = half_worth (weighs_read (exact.quad k h)) (omega (arith, weighs_under (exact.quad k h)))

  pub weight_under : (k : ℕ) → k < entries F → Under (2 ^ 31) ((whole_of u F).weight k)
  weight_under k h = weighs_under (exact.quad k h)

  module _ (shaped : Shaped F) (i : ℕ) (h : i < variables F) where
    -- every bound that any view gives is far from where floats round
    pub bound_under : (free : Whole → Whole) → ((q : Whole) → Under (2 ^ 31) q → Under (2 ^ 31) (free q)) → (w : View) (k : ℕ) → k ≤ entries F → Under (2 ^ 49) (bound_to free u F w i k)
    bound_under free f w k l =
        omega (arith, reach (2 ^ 31) (whole_of u F) weight_under free f w i (2 ^ 31) (weighs_under (exact.linear i h)) k l, shaped.few_entries)

    pub low_under : (w : View) (k : ℕ) → k ≤ entries F → Under (2 ^ 49) (bound_to min0 u F w i k)
    low_under = bound_under min0 (min0_under (2 ^ 31))

    pub high_under : (w : View) (k : ℕ) → k ≤ entries F → Under (2 ^ 49) (bound_to max0 u F w i k)
    high_under = bound_under max0 (max0_under (2 ^ 31))

    module _ {s : List ℕ} (start : StartFor (variables F) s) where
      -- Theorem. After every prefix of the entries a row is worth its two bounds over that prefix, in whole numbers.
      pub row_to_worth : (k : ℕ) → k ≤ entries F → RowWorth u (row_to F s i k) (bound_to min0 u F (view s) i k) (bound_to max0 u F (view s) i k)
      unfolding row_to at_entry sum
      row_to_worth zero l =
          let c = weighs_read (exact.linear i h) in
          record { lower = as_worth c (omega arith); upper = as_worth c (omega arith) }
      row_to_worth (suc k) l =
          let q = (whole_of u F).weight k in
          let x = coeff_worth k (omega arith) in
          let small = weight_under k (omega arith) in
          let r = row_end F k in
          let c = column_end F k in
          let a = low_under (view s) k (omega arith) in
          let b = high_under (view s) k (omega arith) in
          let a' = only_under (2 ^ 31) (eqb r i) _ (share_under (2 ^ 31) (min0 q) q (get_or s c 0) (min0_under (2 ^ 31) q small) small) in
          let b' = only_under (2 ^ 31) (eqb r i) _ (share_under (2 ^ 31) (max0 q) q (get_or s c 0) (max0_under (2 ^ 31) q small) small) in
          let first = end_worth (row_to_worth k (omega arith)) (omega arith) (omega arith) x small i r (get_or s c 0) (start.small c) in
          as_row (end_worth first (omega arith) (omega arith) x small i c (get_or s r 0) (start.small r)) (omega arith) (omega arith)

      -- Theorem. On an exact field the row of i is worth low and high of the field in whole numbers.
      pub row_worth : RowWorth u (row_of F s i) (low (whole_of u F) s i) (high (whole_of u F) s i)
      unfolding row_of
      row_worth = row_to_worth (entries F) (omega arith)

      pub lower_test : lt zero64 (row_of F s i).lower ≡ ltb (low (whole_of u F) s i).less (low (whole_of u F) s i).plus
      lower_test = above_zero row_worth.lower

      pub upper_test : lt (row_of F s i).upper zero64 ≡ ltb (high (whole_of u F) s i).plus (high (whole_of u F) s i).less
      upper_test = below_zero row_worth.upper

      -- Theorem. The verdict on the row forces the value that the meaning forces.
      pub value_is : value_of (judge_of (row_of F s i)) ≡ verdict (whole_of u F) s i
      unfolding verdict
      value_is = value_worth row_worth
