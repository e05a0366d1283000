-- Rows made afresh at the neighbours of the probed variable are all rows made afresh, as far as free variables go. Assumes nothing.
use Prim.Native.Nat.{ℕ, zero, suc, ◌<◌}
use mathlib.Core.Path.{◌≡◌, refl, sym, ap, ◌∙◌}
use mathlib.Core.Logic.{◌≢◌, ◌⊎◌, inl, inr, ⊎_elim}
use mathlib.Core.Bool.{Bool, true, false, cond}
use mathlib.Core.List.{List, [], ◌∷◌}
use native.Mathlib.Nat.{le_refl}
use native.Mathlib.Decide.{ℕ_discrete}
use native.Mathlib.Omega.{arith}
use borrow.Author.Tests.{eqb-true, eq-eqb}
use lib.Dec.{eqb}
use lib.ListN.{length, get_or, set, length-set}
use lib.Seq.{get_or-set_same, get_or-set_other}
use lib.Ieee.{Float}
use Rattle.meaning.proofs.Values.{inside}
use Rattle.field.specs.Field.{Field, variables, entries, row_end, column_end, Shaped, StartFor}
use Rattle.rows.specs.declared.Row.{Row}
use Rattle.rows.specs.Row.{add_term}
use Rattle.rows.specs.Model.{coeff_of, at_end, at_entry, row_to, row_of}
use Rattle.rows.specs.Stored.{up_to}
use Rattle.rows.proofs.Upto.{length_up_to, get_d_up_to}
use Rattle.places.specs.Places.{places, other_end, Touches}
use Rattle.places.proofs.Places.{other_column, other_row}
use Rattle.scanning.proofs.Order.{places_all}
use Rattle.run.specs.Run.{Run, no_row, row_for, is_free, propagate, closure_run}
use Rattle.run.proofs.Room.{free_after}
use Rattle.run.proofs.Theorems.{rows_of_free}
use Rattle.probing.specs.Remembered.{fresh_row, fresh_at, fresh_all, fresh, remembered}

-- ---- a row that no place of i leads to does not see the value of i

-- no place in the list has the other end t
abbrev pub None : Field → ℕ → ℕ → List ℕ → Type 0
None F i t ks = (x : ℕ) → x < length ks → other_end F.rows F.cols i (get_or ks x 0) ≢ t

same_end : (t e : ℕ) (a : Float) (x y : ℕ) (r : Row) → (e ≡ t → x ≡ y) → at_end t e a x r ≡ at_end t e a y r
unfolding at_end
same_end t e a x y r h = go (eqb e t) refl
  where
    go : (b : Bool) → eqb e t ≡ b → cond b (add_term r a x) r ≡ cond b (add_term r a y) r
    go true p = ap (add_term r a) (h (eqb-true _ _ p))
    go false p = refl

module _ {F : Field} (S : Shaped F) (s : List ℕ) (i v t : ℕ) (ne : t ≢ i) (none : None F i t (places F.rows F.cols i)) where
  apart : (k : ℕ) → k < entries F → Touches F.rows F.cols i k → other_end F.rows F.cols i k ≢ t
  apart k h touch e =
      let p = places_all F.rows F.cols i k (omega (arith, S.rows_long)) (S.cols_long ∙ sym S.rows_long) touch in
      none p.place p.within (ap (other_end F.rows F.cols i) p.holds ∙ e)

  by_row : (k : ℕ) → k < entries F → column_end F k ≡ t → get_or (set s i v) (row_end F k) 0 ≡ get_or s (row_end F k) 0
  by_row k h e = get_or-set_other s i (row_end F k) v 0 (λ q. apart k h (inl q) (other_column F.rows F.cols i k q ∙ e))

  by_column : (k : ℕ) → k < entries F → row_end F k ≡ t → get_or (set s i v) (column_end F k) 0 ≡ get_or s (column_end F k) 0
  by_column k h e = get_or-set_other s i (column_end F k) v 0 (λ q. apart k h (inr q) (other_row F.rows F.cols i k (λ z. ne (sym e ∙ z)) ∙ e))

  row_apart : (m : ℕ) → m < suc (entries F) → row_to F (set s i v) t m ≡ row_to F s t m
  unfolding row_to at_entry
  row_apart zero h = refl
  row_apart (suc k) h =
      same_end t (column_end F k) (coeff_of F k) _ _ _ (by_row k (omega arith))
      ∙ ap (at_end t (column_end F k) (coeff_of F k) (get_or s (row_end F k) 0))
      (same_end t (row_end F k) (coeff_of F k) _ _ _ (by_column k (omega arith)) ∙ ap (at_end t (row_end F k) (coeff_of F k) (get_or s (column_end F k) 0)) (row_apart k (omega arith)))

  pub row_elsewhere : row_of F (set s i v) t ≡ row_of F s t
  unfolding row_of
  row_elsewhere = row_apart (entries F) (le_refl _)

-- ---- what making rows afresh leaves

module _ (F : Field) (i : ℕ) where
  -- the values, the queue, and how many rows there are
  pub record Same (run other : Run) : Type 0 where
    pub values : other.values ≡ run.values
    pub queue : other.queue ≡ run.queue
    pub rows_long : length other.rows ≡ length run.rows

  pub at_same : (run : Run) (k : ℕ) → Same run (fresh_at F i run k)
  unfolding fresh_at fresh_row
  at_same run k = go (is_free run (other_end F.rows F.cols i k))
    where
      go : (b : Bool) → Same run (cond b (fresh_row F run (other_end F.rows F.cols i k)) run)
      go true = record { values = refl; queue = refl; rows_long = length-set run.rows _ _ }
      go false = record { values = refl; queue = refl; rows_long = refl }

  pub all_same : (run : Run) (ks : List ℕ) → Same run (fresh_all F i run ks)
  unfolding fresh_all
  all_same run [] = record { values = refl; queue = refl; rows_long = refl }
  all_same run (k ∷ ks) =
      let a = all_same (fresh_at F i run k) ks in
      let b = at_same run k in
      record { values = a.values ∙ b.values; queue = a.queue ∙ b.queue; rows_long = a.rows_long ∙ b.rows_long }

  pub at_here : (run : Run) (k t : ℕ) → get_or run.values t 0 ≡ 2 → t < length run.rows → other_end F.rows F.cols i k ≡ t → row_for (fresh_at F i run k) t ≡ row_of F run.values t
  unfolding fresh_at fresh_row
  at_here run k t free l e = rw (e, eq-eqb (get_or run.values t 0) 2 free) (get_or-set_same run.rows t (row_of F run.values t) no_row l)

  pub at_other : (run : Run) (k t : ℕ) → other_end F.rows F.cols i k ≢ t → row_for (fresh_at F i run k) t ≡ row_for run t
  unfolding fresh_at fresh_row
  at_other run k t ne = go (is_free run (other_end F.rows F.cols i k))
    where
      go : (b : Bool) → row_for (cond b (fresh_row F run (other_end F.rows F.cols i k)) run) t ≡ row_for run t
      go true = get_or-set_other run.rows (other_end F.rows F.cols i k) t _ no_row (λ z. ne (sym z))
      go false = refl

  -- the row of a free variable is made afresh, or is as it was, and then no place leads there
  pub fresh_or_kept : (run : Run) (ks : List ℕ) (t : ℕ) → get_or run.values t 0 ≡ 2 → t < length run.rows
      → (row_for (fresh_all F i run ks) t ≡ row_of F run.values t) ⊎ ((row_for (fresh_all F i run ks) t ≡ row_for run t) × None F i t ks)
  unfolding fresh_all
  fresh_or_kept run [] t free l = inr (refl, λ x h. absurd (omega arith))
  fresh_or_kept run (k ∷ ks) t free l =
      let b = at_same run k in
      ⊎_elim
      (λ e. inl (e ∙ ap (λ (vs : List ℕ). row_of F vs t) b.values))
      (λ e. last e.0 e.1 (ℕ_discrete (other_end F.rows F.cols i k) t))
      (fresh_or_kept (fresh_at F i run k) ks t (ap (λ (vs : List ℕ). get_or vs t 0) b.values ∙ free) (omega (arith, b.rows_long)))
    where
      more : other_end F.rows F.cols i k ≢ t → None F i t ks → None F i t (k ∷ ks)
      more ne none zero h = ne
      more ne none (suc x) h = none x (omega arith)

      last : row_for (fresh_all F i (fresh_at F i run k) ks) t ≡ row_for (fresh_at F i run k) t → None F i t ks → Dec (other_end F.rows F.cols i k ≡ t)
          → (row_for (fresh_all F i (fresh_at F i run k) ks) t ≡ row_of F run.values t)
          ⊎ ((row_for (fresh_all F i (fresh_at F i run k) ks) t ≡ row_for run t) × None F i t (k ∷ ks))
      last e none (yes q) = inl (e ∙ at_here run k t free l q)
      last e none (no ne) = inr (e ∙ at_other run k t ne, more ne none)

  -- where no place leads, every row is as it was
  pub none_kept : (run : Run) (ks : List ℕ) (t : ℕ) → None F i t ks → row_for (fresh_all F i run ks) t ≡ row_for run t
  unfolding fresh_all
  none_kept run [] t none = refl
  none_kept run (k ∷ ks) t none = none_kept (fresh_at F i run k) ks t (λ x h. none (suc x) (omega arith)) ∙ at_other run k t (none 0 (omega arith))

-- ---- so the run from there is that of the closure with the one value added

module _ {F : Field} (S : Shaped F) {s : List ℕ} (start : StartFor (variables F) s) (i v : ℕ) (free : get_or s i 0 ≡ 2) (small : v < 2) where
  -- every free variable has its row at the values
  pub rows_fresh : (t : ℕ) → get_or (set s i v) t 0 ≡ 2 → row_for (fresh F (remembered F s (set s i v)) i) t ≡ row_of F (set s i v) t
  unfolding fresh remembered
  rows_fresh t h =
      let z = free_after s i v free small t h in
      let l : t < variables F = omega (arith, inside s t z.1, start.long) in
      let run = remembered F s (set s i v) in
      ⊎_elim (λ e. e)
      (λ e. e.0 ∙ get_d_up_to (row_of F s) (variables F) t no_row l ∙ sym (row_elsewhere S s i v t z.0 e.1))
      (fresh_or_kept F i run (places F.rows F.cols i) t h (omega (arith, length_up_to (row_of F s) (variables F))))

  -- Theorem. A run from rows that are afresh at the neighbours alone reaches the values and the queue of the closure's run.
  pub fresh_agrees : let run = fresh F (remembered F s (set s i v)) i in
      ((propagate F run.values run.rows).values ≡ (closure_run F (set s i v)).values) × ((propagate F run.values run.rows).queue ≡ (closure_run F (set s i v)).queue)
  unfolding closure_run fresh remembered
  fresh_agrees =
      let run = remembered F s (set s i v) in
      let a = all_same F i run (places F.rows F.cols i) in
      rw a.values (rows_of_free F (set s i v) (up_to (row_of F (set s i v)) (variables F)) (fresh_all F i run (places F.rows F.cols i)).rows
      (a.rows_long ∙ length_up_to (row_of F s) (variables F) ∙ sym (length_up_to (row_of F (set s i v)) (variables F)))
      (λ t h. rows_fresh t h ∙ sym (get_d_up_to (row_of F (set s i v)) (variables F) t no_row (omega (arith, inside s t (free_after s i v free small t h).1, start.long)))))
