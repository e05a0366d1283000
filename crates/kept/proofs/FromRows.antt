-- The run from the rows of a record, in its cells and on an exact field. Assumes nothing.
use Prim.Native.Nat.{ℕ, ◌+◌, ◌<◌}
use mathlib.Core.Path.{◌≡◌, refl, ap, ap₂, ◌∙◌}
use mathlib.Core.List.{List}
use native.Mathlib.Nat.{le_refl}
use native.Mathlib.Omega.{arith}
use lib.ListN.{length}
use lib.Ieee.{Float, nan}
use Rattle.scratch.specs.Over.{over}
use Rattle.scratch.proofs.Over.{over_at}
use Rattle.meaning.specs.Gradient.{view}
use Rattle.meaning.proofs.Values.{inside}
use Rattle.field.specs.Field.{Field, variables, entries, Shaped, StartFor}
use Rattle.field.specs.Grade.{ExactIn}
use Rattle.rows.specs.Model.{row_of}
use Rattle.rows.specs.Stored.{row_on, rows_on}
use Rattle.rows.proofs.Upto.{length_up_to, get_d_up_to, up_to_same}
use Rattle.rows.proofs.Counted.{low_under, high_under, row_worth}
use Rattle.run.specs.Run.{Run, no_row, propagate, closure, flat_to, flat_rows}
use Rattle.run.specs.Cells.{Cells, cells, run_in, Does}
use Rattle.run.specs.Ended.{RowsWorth, Ended}
use Rattle.run.proofs.Theorems.{propagate_closes, closure_is_only}
use Rattle.run.proofs.Turns.{propagated}
use Rattle.kept.specs.Kept.{made}
use Rattle.kept.specs.Calls.{run_from}
use Rattle.kept.proofs.Plain.{plain_worth}
use Rattle.kept.proofs.Bounds.{made_row}
use Rattle.kept.proofs.Equation.{stored_free}

-- ---- in its cells

over_rows : (n : ℕ) (b f : List Float) → length b ≡ n + n → rows_on (over b f) n ≡ rows_on b n
over_rows n b f long = up_to_same (row_on (over b f) n) (row_on b n) n (λ t l. rw (over_at b f t nan (omega arith), over_at b f (n + t) nan (omega arith)) refl)

module _ {F : Field} {vs : List ℕ} {f : List Float} {u : List ℕ} {s' : Cells} (D : Does F (λ run. propagate F run.values run.rows) (cells vs f u 0) s')
    (s : List ℕ) (b f₀ : List Float) (ev : vs ≡ s) (ef : f ≡ over b f₀) (long : length b ≡ variables F + variables F) where
  ran : run_in F s' ≡ run_from F s b
  unfolding run_from
  ran = propagated D ∙ ap₂ (propagate F) ev (ap (λ (z : List Float). rows_on z (variables F)) ef ∙ over_rows (variables F) b f₀ long)

  pub ran_values : s'.values ≡ (run_from F s b).values
  unfolding run_in
  ran_values = ap (λ (run : Run). run.values) ran

  pub ran_flat : {r : ℕ} → r ≡ flat_to s'.values (rows_on s'.floats (length s'.values)) (length s'.values) → r ≡ flat_rows (run_from F s b)
  unfolding run_in
  ran_flat e = e ∙ ap (λ (n : ℕ). flat_to s'.values (rows_on s'.floats n) (length s'.values)) D.kept.placed.values_long ∙ ap flat_rows ran

-- ---- on an exact field, from a record that was made

module _ {u : ℕ} {F : Field} (shaped : Shaped F) (exact : ExactIn u F) {s : List ℕ} (start : StartFor (variables F) s) where
  pub made_worth : RowsWorth u F s (rows_on (made F s).bounds (variables F))
  made_worth t free =
      let l : t < variables F = omega (arith, inside s t free, start.long) in
      let a = low_under exact shaped t l (view s) (entries F) (le_refl _) in
      let b = high_under exact shaped t l (view s) (entries F) (le_refl _) in
      rw (get_d_up_to (row_on (made F s).bounds (variables F)) (variables F) t no_row l, made_row F s t l, stored_free (row_of F s t) free)
      (plain_worth (row_worth exact shaped t l start) (omega arith) (omega arith))

  -- it ends in the closure of the values, with rows that are worth the bounds there
  pub made_closes : Ended u F s (run_from F s (made F s).bounds)
  unfolding run_from
  made_closes = propagate_closes shaped exact start _ (omega (arith, length_up_to (row_on (made F s).bounds (variables F)) (variables F))) made_worth

  pub made_closure : (run_from F s (made F s).bounds).values ≡ closure F s
  made_closure = closure_is_only shaped exact start made_closes.closed
