-- The pass over the entries: after k of them every row is the model's row after k. Assumes nothing.
use Prim.Native.Nat.{ℕ, ◌+◌, ◌<◌, ◌≤◌}
use mathlib.Core.Path.{◌≡◌, refl, ap, ◌∙◌}
use mathlib.Core.List.{List}
use native.Mathlib.Nat.{le_antisymm}
use native.Mathlib.Numerals.{add-one}
use native.Mathlib.Omega.{arith}
use lib.ListN.{length, get_or}
use lib.Ieee.{Float}
use Rattle.field.specs.Field.{Field, variables, entries, linear_of, row_end, column_end}
use Rattle.rows.specs.declared.Row.{Row}
use Rattle.rows.specs.Row.{start_row}
use Rattle.rows.specs.Model.{coeff_of, at_end, at_entry, row_to, row_of}
use Rattle.rows.specs.Stored.{row_on, add_at, add_entry, Written, Fillable, Passed, Filled}
use Rattle.rows.proofs.Stored.{length_put, rest_put, row_added, written_as, written_unique}

-- a term at the end e changes every row as the model says
added : (n : ℕ) {g : ℕ → Row} {f₀ f : List Float} (e : ℕ) (a : Float) (v : ℕ) → Written n g f₀ f n → e < n → n + n ≤ length f₀
    → Written n (λ i. at_end i e a v (g i)) f₀ (add_at f n e a v) n
unfolding add_at
added n {g} {f₀} {f} e a v now h room = record {
  long = length_put f n e _ ∙ now.long;
  rows = λ i l. row_added f n e i a v h l (omega (arith, now.long)) ∙ ap (at_end i e a v) (now.rows i l);
  rest = rest_put f n e _ h ∙ now.rest;
}

module _ {F : Field} {s : List ℕ} where
  pub pass_start : {f : List Float} → Fillable F s f → ((i : ℕ) → i < variables F → row_on f (variables F) i ≡ start_row (linear_of F i)) → Passed F s f f 0
  unfolding row_to
  pass_start ready h = record { ready = ready; within = omega arith; written = record { long = refl; rows = h; rest = refl } }

  pub pass_turn : {f₀ f f₁ : List Float} {k : ℕ} → Passed F s f₀ f k → k < entries F → f₁ ≡ add_entry F s f k → Passed F s f₀ f₁ (k + 1)
  unfolding row_to at_entry add_entry
  pass_turn {f₀} {f} {f₁} {k} now h e = rw (e, add-one k) record {
    ready = now.ready;
    within = omega arith;
    written =
        added (variables F) (column_end F k) (coeff_of F k) (get_or s (row_end F k) 0)
        (added (variables F) (row_end F k) (coeff_of F k) (get_or s (column_end F k) 0) now.written (now.ready.shaped.row_below k h) now.ready.room)
        (now.ready.shaped.column_below k h) now.ready.room;
  }

  pub pass_done : {f₀ f : List Float} {k : ℕ} → Passed F s f₀ f k → entries F ≤ k → Filled F s f₀ f
  unfolding row_of
  pass_done now h = written_as now.written (λ i l. ap (row_to F s i) (le_antisymm now.within h))

  -- what is written keeps the length, and so the room
  pub ready_after : {f₀ f : List Float} {g : ℕ → Row} {n j : ℕ} → Fillable F s f₀ → Written n g f₀ f j → Fillable F s f
  ready_after ready w = record { shaped = ready.shaped; values_long = ready.values_long; room = omega (arith, ready.room, w.long) }

  -- both ends of an entry have a value, and both bounds of their rows have a place
  pub ends_in : {f : List Float} → Fillable F s f → (k : ℕ) → k < entries F
      → ((row_end F k < length s) × (column_end F k < length s)) × ((variables F + row_end F k < length f) × (variables F + column_end F k < length f))
  ends_in ready k h = omega (arith, ready.shaped.row_below k h, ready.shaped.column_below k h)

-- Theorem. THE PROMISE OF `fill` IS TIGHT: any two results that it permits are equal.
pub filled_unique : (F : Field) (s : List ℕ) {f₀ f f₁ : List Float} → Filled F s f₀ f → Filled F s f₀ f₁ → f ≡ f₁
filled_unique F s a b = written_unique a b
