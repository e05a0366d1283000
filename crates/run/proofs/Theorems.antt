-- The theorems about the gradient run, each in one statement: on an exact field it is the closure in whole numbers. Assumes nothing.
use Prim.Native.Nat.{ℕ, ◌<◌, ◌≤◌}
use mathlib.Core.Path.{◌≡◌, refl, sym}
use mathlib.Core.Logic.{◌≢◌}
use mathlib.Core.Bool.{Bool, true, false, cond}
use mathlib.Core.List.{List}
use native.Mathlib.Omega.{arith}
use lib.ListN.{length, get_or}
use lib.Ieee.{lt}
use Rattle.weights.specs.Worth.{zero64}
use Rattle.meaning.specs.Field as meaning
use Rattle.meaning.specs.Steps.{Extends, Agrees, stop, Closure}
use Rattle.meaning.specs.Passes as passes
use Rattle.meaning.specs.Gradient.{Forces, verdict}
use Rattle.meaning.specs.Part.{Safe}
use Rattle.meaning.proofs.Theorems as meant
use Rattle.field.specs.Field.{Field, variables, Shaped, StartFor}
use Rattle.field.specs.Grade.{ExactIn}
use Rattle.field.specs.Reading.{whole_of}
use Rattle.rows.specs.declared.Row.{Row}
use Rattle.rows.specs.declared.Verdict.TheVariants.{Zero, One, Flat, Open}
use Rattle.rows.specs.Row.{both_zero}
use Rattle.rows.specs.Model.{row_of}
use Rattle.rows.specs.Stored.{up_to}
use Rattle.rows.proofs.Upto.{length_up_to}
use Rattle.run.specs.Run.{Run, no_row, row_for, force, settle, judged, propagate, closure_run, closure}
use Rattle.run.specs.Room.{Room}
use Rattle.run.specs.Ended.{RowsWorth, Ended}
use Rattle.run.proofs.Room.{room_propagate}
use Rattle.run.proofs.Alike.{alike_propagate}
use Rattle.run.proofs.Lockstep.{worth_agree}
use Rattle.run.proofs.Bridge.{start_rows_worth, propagate_ends}

-- ---- on every field, exact or not

-- Theorem. A row acts by its two strict tests alone, so a flat one is passed over as an open one is.
pub judged_strict : (run : Run) (t : ℕ)
    → judged run t ≡ cond (lt zero64 (row_for run t).lower) (force run t 0) (cond (lt (row_for run t).upper zero64) (force run t 1) run)
unfolding judged settle
judged_strict run t = by (lt zero64 (row_for run t).lower) (lt (row_for run t).upper zero64) (both_zero (row_for run t))
  where
    by : (x y z : Bool)
        → settle run t (cond x (Zero (row_for run t).lower) (cond y (One (row_for run t).upper) (cond z Flat Open))) ≡ cond x (force run t 0) (cond y (force run t 1) run)
    by true y z = refl
    by false true z = refl
    by false false true = refl
    by false false false = refl

-- Theorem. The queue of a run has room for n variables.
pub propagate_room : (F : Field) {s : List ℕ} → StartFor (variables F) s → (rows : List Row) → Room (variables F) s (propagate F s rows).values (propagate F s rows).queue
propagate_room F start rows = room_propagate F rows start

-- Only the rows of free variables matter.
pub rows_of_free : (F : Field) (s : List ℕ) (rows rows' : List Row) → length rows' ≡ length rows → ((t : ℕ) → get_or s t 0 ≡ 2 → get_or rows' t no_row ≡ get_or rows t no_row)
    → ((propagate F s rows').values ≡ (propagate F s rows).values) × ((propagate F s rows').queue ≡ (propagate F s rows).queue)
rows_of_free F s rows rows' long agree = let a = alike_propagate F s rows rows' long agree in (a.values, a.queue)

-- The closure keeps the start values.
pub closure_extends : (F : Field) {s : List ℕ} → StartFor (variables F) s → Extends s (closure F s)
unfolding closure closure_run
closure_extends F start = (propagate_room F start _).extends

-- It is start values itself.
pub closure_valid : (F : Field) {s : List ℕ} → StartFor (variables F) s → StartFor (variables F) (closure F s)
unfolding closure closure_run
closure_valid F start = (propagate_room F start _).valid

-- Every value that it adds is 0 or 1.
pub closure_adds : (F : Field) {s : List ℕ} → StartFor (variables F) s → (i : ℕ) → get_or s i 0 ≡ 2 → get_or (closure F s) i 0 ≢ 2 → get_or (closure F s) i 0 < 2
closure_adds F start i free set = omega (arith, (closure_valid F start).small i)

-- ---- on an exact field

module _ {u : ℕ} {F : Field} (shaped : Shaped F) (exact : ExactIn u F) where
  -- Theorem. From rows that are worth low and high of every free variable, the run ends in the closure, and in such rows there.
  pub propagate_closes : {s : List ℕ} → StartFor (variables F) s → (rows : List Row) → variables F ≤ length rows → RowsWorth u F s rows → Ended u F s (propagate F s rows)
  propagate_closes start rows long worth = propagate_ends shaped exact start rows long worth

  -- Theorem. All such rows lead to the same values and to the same queue.
  pub rows_of_worth : {s : List ℕ} → StartFor (variables F) s → (rows rows' : List Row) → variables F ≤ length rows → variables F ≤ length rows'
      → RowsWorth u F s rows → RowsWorth u F s rows' → ((propagate F s rows').values ≡ (propagate F s rows).values) × ((propagate F s rows').queue ≡ (propagate F s rows).queue)
  rows_of_worth start rows rows' long long' worth worth' = let a = worth_agree shaped exact start rows rows' long long' worth worth' in (a.values, a.queue)

  -- So does the run from the rows at the start values.
  pub closure_run_closes : {s : List ℕ} → StartFor (variables F) s → Ended u F s (closure_run F s)
  unfolding closure_run
  closure_run_closes {s} start = propagate_closes start (up_to (row_of F s) (variables F)) (omega (arith, length_up_to (row_of F s) (variables F))) (start_rows_worth shaped exact start)

  -- Theorem. What the floats reach is the closure in whole numbers.
  pub closure_is_closure : {s : List ℕ} → StartFor (variables F) s → Closure (Forces (whole_of u F)) s (closure F s)
  unfolding closure
  closure_is_closure start = (closure_run_closes start).closed

  -- No other list is, in whatever order its values are forced.
  pub closure_is_only : {s t : List ℕ} → StartFor (variables F) s → Closure (Forces (whole_of u F)) s t → t ≡ closure F s
  closure_is_only start c = meant.closure_any_order (whole_of u F) c (closure_is_closure start)

  -- It is what n passes over the variables compute in whole numbers.
  pub closure_is_computed : {s : List ℕ} → StartFor (variables F) s → passes.closure (verdict (whole_of u F)) s ≡ closure F s
  closure_is_computed {s} start = closure_is_only start (meant.closure_exists (whole_of u F) s)

  -- It is its own closure.
  pub closure_again : {s : List ℕ} → StartFor (variables F) s → closure F (closure F s) ≡ closure F s
  closure_again start = sym (closure_is_only (closure_valid F start) (record { reached = stop; closed = (closure_is_closure start).closed }))

  -- Every best completion has each of its values.
  pub closure_obeyed : {s y : List ℕ} → StartFor (variables F) s → meaning.Best (whole_of u F) s y → Extends (closure F s) y
  closure_obeyed start best = meant.closure_obeyed (whole_of u F) exact.standard start.long (closure_is_closure start) best

  -- Some best completion has them all.
  pub closure_stands : {s : List ℕ} → StartFor (variables F) s → Safe (whole_of u F) s (closure F s)
  closure_stands start = meant.closure_stands (whole_of u F) start.small exact.standard start.long (closure_is_closure start)

  -- Further start values that contradict none of its values keep each of them.
  pub closure_keeps : {s s' : List ℕ} → StartFor (variables F) s → StartFor (variables F) s' → Extends s s' → Agrees s' (closure F s) → Extends (closure F s) (closure F s')
  closure_keeps start start' extends agrees = meant.closure_persists (whole_of u F) (closure_is_closure start) (closure_is_closure start') extends agrees
