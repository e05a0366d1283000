-- One row is held outside the floats: what stands is the floats with that row put in its place. Assumes nothing.
use Prim.Native.Nat.{ℕ, ◌+◌, ◌<◌, ◌≤◌}
use mathlib.Core.Path.{◌≡◌, sym, ap, ◌∙◌}
use mathlib.Core.Logic.{◌≢◌}
use mathlib.Core.List.{List}
use native.Mathlib.Omega.{arith}
use lib.ListN.{length, get_or, set}
use lib.Seq.{set-set, set_comm, set-get_or}
use lib.Ieee.{Float, nan}
use Rattle.field.specs.Field.{Field, variables, entries, linear_of, row_end, column_end}
use Rattle.rows.specs.declared.Row.{Row}
use Rattle.rows.specs.Row.{start_row, add_term}
use Rattle.rows.specs.Model.{coeff_of}
use Rattle.rows.specs.Stored.{row_on, put_row, add_at, add_entry, Fillable, Passed, Filled}
use Rattle.rows.proofs.Stored.{length_put, row_same, row_other}
use Rattle.rows.proofs.Pass.{pass_start, pass_turn, pass_done}

-- ---- two rows put

-- the second of two in one place stands
put_twice : (f : List Float) (n j : ℕ) (r r' : Row) → j < n → put_row (put_row f n j r) n j r' ≡ put_row f n j r'
put_twice f n j r r' h =
    rw (
      set_comm (set f j r.lower) (n + j) j r.upper r'.lower (λ e. omega arith),
      set-set f j r.lower r'.lower,
      set-set (set f j r'.lower) (n + j) r.upper r'.upper,
    )

-- in two places they are put in either order
put_swap : (f : List Float) (n j t : ℕ) (r r' : Row) → j < n → t < n → t ≢ j → put_row (put_row f n j r) n t r' ≡ put_row (put_row f n t r') n j r
put_swap f n j t r r' h l ne =
    rw (
      set_comm (set f j r.lower) (n + j) t r.upper r'.lower (λ e. omega arith),
      set_comm f j t r.lower r'.lower (λ e. ne (sym e)),
      set_comm (set (set f t r'.lower) j r.lower) (n + j) (n + t) r.upper r'.upper (λ e. ne (omega arith)),
      set_comm (set f t r'.lower) j (n + t) r.lower r'.upper (λ e. omega arith),
    )

-- a row that is in its place is put there
put_own : (f : List Float) (n t : ℕ) → put_row f n t (row_on f n t) ≡ f
put_own f n t = rw (set-get_or f t nan, set-get_or f (n + t) nan)

length_added : (f : List Float) (n t : ℕ) (a : Float) (v : ℕ) → length (add_at f n t a v) ≡ length f
unfolding add_at
length_added f n t a v = length_put f n t _

-- ---- one entry, where row j is held

-- a term goes into the row that is held,
held_own : (f : List Float) (n j : ℕ) (row : Row) (a : Float) (v : ℕ) → j < n → n + n ≤ length f
    → put_row f n j (add_term row a v) ≡ add_at (put_row f n j row) n j a v
unfolding add_at
held_own f n j row a v h room = rw (row_same f n j row h room) (sym (put_twice f n j row (add_term row a v) h))

-- or into another
held_beside : (f : List Float) (n j t : ℕ) (row : Row) (a : Float) (v : ℕ) → j < n → t < n → t ≢ j → n + n ≤ length f
    → put_row (add_at f n t a v) n j row ≡ add_at (put_row f n j row) n t a v
unfolding add_at
held_beside f n j t row a v h l ne room = rw (row_other f n j row h room t l ne) (sym (put_swap f n j t row (add_term (row_on f n t) a v) h l ne))

module _ (F : Field) (s : List ℕ) (f : List Float) (j k : ℕ) (row : Row) {i t : ℕ} {a : Float} (ei : i ≡ row_end F k) (et : t ≡ column_end F k) (ea : a ≡ coeff_of F k) where
  -- it is of column j and off the diagonal,
  pub held_stays : {f₁ : List Float} {last : Row} → Fillable F s f → k < entries F → t ≡ j → i ≢ j
      → f₁ ≡ add_at f (variables F) i a (get_or s t 0) → last ≡ add_term row a (get_or s i 0)
      → put_row f₁ (variables F) (column_end F k) last ≡ add_entry F s (put_row f (variables F) j row) k
  unfolding add_entry
  held_stays {f₁} ready h here apart e p =
      let n = variables F in
      let below : j < n = omega (arith, ready.shaped.column_below k h, here, et) in
      let v = get_or s t 0 in
      let w = get_or s i 0 in
      let column : column_end F k ≡ j = sym et ∙ here in
      rw (column, p, e) (
      held_own (add_at f n i a v) n j row a w below (omega (arith, ready.room, length_added f n i a v))
      ∙ ap (λ (g : List Float). add_at g n j a w) (held_beside f n j i row a v below (omega (arith, ready.shaped.row_below k h, ei)) apart ready.room)
      ∙ rw (ei, et, ea, column)
      )

  -- or any: row j is put in its place, and the row of its column is held instead
  pub held_moves : {f₁ f₂ : List Float} {own last : Row} → f₁ ≡ put_row f (variables F) j row → f₂ ≡ add_at f₁ (variables F) i a (get_or s t 0)
      → own ≡ row_on f₂ (variables F) t → last ≡ add_term own a (get_or s i 0)
      → put_row f₂ (variables F) (column_end F k) last ≡ add_entry F s (put_row f (variables F) j row) k
  unfolding add_entry add_at
  held_moves e₁ e₂ eo el = rw (el, eo, e₂, e₁, ei, et, ea)

-- ---- the pass, with the row of j held

pub record Holding (F : Field) (s : List ℕ) (f₀ f : List Float) (j : ℕ) (row : Row) (k : ℕ) : Type 0 where
  pub here : j < variables F
  pub passed : Passed F s f₀ (put_row f (variables F) j row) k

module _ {F : Field} {s : List ℕ} where
  pub hold_start : {f : List Float} {j : ℕ} {row : Row} → Fillable F s f → ((i : ℕ) → i < variables F → row_on f (variables F) i ≡ start_row (linear_of F i))
      → j < variables F → row ≡ row_on f (variables F) j → Holding F s f f j row 0
  hold_start {f} {j} ready start h e = record { here = h; passed = rw (e, put_own f (variables F) j) (pass_start ready start) }

  module _ {f₀ f : List Float} {j : ℕ} {row : Row} {k : ℕ} (H : Holding F s f₀ f j row k) where
    pub hold_long : length f ≡ length f₀
    hold_long = sym (length_put f (variables F) j row) ∙ H.passed.written.long

    pub hold_ready : Fillable F s f
    hold_ready = record { shaped = H.passed.ready.shaped; values_long = H.passed.ready.values_long; room = omega (arith, H.passed.ready.room, hold_long) }

    pub hold_turn : (f₁ : List Float) (row₁ : Row) {j₁ : ℕ} → k < entries F → j₁ ≡ column_end F k
        → put_row f₁ (variables F) (column_end F k) row₁ ≡ add_entry F s (put_row f (variables F) j row) k → Holding F s f₀ f₁ j₁ row₁ (k + 1)
    hold_turn f₁ row₁ h ej e = rw ej record { here = H.passed.ready.shaped.column_below k h; passed = pass_turn H.passed h e }

    pub hold_done : {f₁ : List Float} → f₁ ≡ put_row f (variables F) j row → entries F ≤ k → Filled F s f₀ f₁
    hold_done e h = rw e (pass_done H.passed h)
