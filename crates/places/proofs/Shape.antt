-- What a field's shape says of its ends and of its places. Assumes nothing.
use mathlib.Core.Path.{◌≡◌, sym, ◌∙◌}
use Prim.Native.Nat.{ℕ, ◌*◌, ◌<◌}
use native.Mathlib.Omega.{arith}
use Rattle.field.specs.Field.{Field, variables, entries, Shaped, Standard}
use Rattle.places.specs.Places.{EndsBelow, start, other_end}
use Rattle.places.proofs.Places.{other_below}
use Rattle.places.proofs.Starts.{start_all}

module _ {F : Field} (S : Shaped F) where
  pub ends_below : EndsBelow (variables F) F.rows F.cols
  ends_below = record {
    few = omega (arith, S.rows_long, S.few_entries);
    few_variables = S.few_variables;
    same = S.cols_long ∙ sym S.rows_long;
    row_below = λ k h. S.row_below k (omega (arith, S.rows_long));
    column_below = λ k h. S.column_below k (omega (arith, S.rows_long));
  }

  -- the other end of an entry is a variable
  pub other_end_below : (i : ℕ) {k t : ℕ} → k < entries F → t ≡ other_end F.rows F.cols i k → t < variables F
  other_end_below i {k} h e = rw e (other_below F.rows F.cols i k ends_below (omega (arith, S.rows_long)))

  -- in standard form every entry has two places
  pub standard_starts : Standard F → start F.rows F.cols (variables F) ≡ 2 * entries F
  standard_starts off = start_all F.rows F.cols ends_below (λ k h. off k (omega (arith, S.rows_long))) ∙ omega (arith, S.rows_long)
