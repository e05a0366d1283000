-- The loop over the entries: where it stands after k of them, and how it starts, turns and ends. Assumes nothing.
use Prim.Native.Nat.{ℕ, ◌+◌, ◌<◌, ◌≤◌}
use mathlib.Core.Path.{◌≡◌, refl, ap, ◌∙◌}
use native.Mathlib.Nat.{le_antisymm}
use native.Mathlib.Numerals.{add-one}
use native.Mathlib.Omega.{arith}
use lib.ListN.{length, get_or}
use Rattle.scratch.specs.Over.{over}
use Rattle.field.specs.Field.{Field, entries, row_end, column_end, quad_of, Shaped}
use Rattle.shift.specs.Picked.{picked}
use Rattle.shift.specs.Closing.{Closable, linear_to, kept_at, Closing, closing, closed_to, closed, close_at}
use Rattle.shift.proofs.Picked.{picked_few, picked_long, picked_past}
use Rattle.shift.proofs.Turns.{linear_long, closes_one}

-- the lists G with m entries kept are what the first k entries of F leave, and as long as they were
pub record Stands (F : Field) (k : ℕ) (G : Field) (m : ℕ) : Type 0 where
  pub within : k ≤ entries F
  pub is : closing G m ≡ closed_to F k
  pub linear_same : length G.linear ≡ length F.linear
  pub rows_same : length G.rows ≡ length F.rows
  pub cols_same : length G.cols ≡ length F.cols
  pub quad_same : length G.quad ≡ length F.quad

module _ {F : Field} (S : Shaped F) where
  stands : {k m : ℕ} {G : Field} → k ≤ entries F → closing G m ≡ closed_to F k → Stands F k G m
  unfolding closed_to
  stands {k} {m} {G} h e = record {
    within = h;
    is = e;
    linear_same = ap (λ (x : Closing). length x.lists.linear) e ∙ linear_long F k;
    rows_same = ap (λ (x : Closing). length x.lists.rows) e ∙ picked_long (kept_at F) (row_end F) F.rows k (omega (arith, S.rows_long));
    cols_same = ap (λ (x : Closing). length x.lists.cols) e ∙ picked_long (kept_at F) (column_end F) F.cols k (omega (arith, S.cols_long));
    quad_same = ap (λ (x : Closing). length x.lists.quad) e ∙ picked_long (kept_at F) (quad_of F) F.quad k h;
  }

  pub stands_start : Stands F 0 F 0
  unfolding closed_to linear_to picked over
  stands_start = record { within = omega arith; is = refl; linear_same = refl; rows_same = refl; cols_same = refl; quad_same = refl }

  -- the next entry is as it was given
  pub stands_ready : {k m : ℕ} {G : Field} → Stands F k G m → k < entries F → Closable k m G
  unfolding closed_to
  stands_ready {k} {m} {G} s h = record {
    behind = rw (ap (λ (x : Closing). x.kept) s.is) (picked_few (kept_at F) k);
    few = omega (arith, S.few_entries);
    in_rows = omega (arith, s.rows_same, S.rows_long);
    in_cols = omega (arith, s.cols_same, S.cols_long);
    in_quad = omega (arith, s.quad_same);
    row_below =
        let e : get_or G.rows k 0 ≡ row_end F k = ap (λ (x : Closing). get_or x.lists.rows k 0) s.is
        ∙ picked_past (kept_at F) (row_end F) F.rows k 0 in
        omega (arith, S.row_below k h, s.linear_same);
  }

  pub stands_turn : {k m m' : ℕ} {G G' : Field} → Stands F k G m → k < entries F → closing G' m' ≡ close_at k (closing G m) → Stands F (k + 1) G' m'
  stands_turn {k} s h e =
      rw add-one
      (stands (omega arith) (e ∙ ap (close_at k) s.is ∙ closes_one F k (omega (arith, S.rows_long)) (omega (arith, S.cols_long)) h))

  pub stands_done : {k m : ℕ} {G : Field} → Stands F k G m → entries F ≤ k → closing G m ≡ closed F
  unfolding closed
  stands_done s h = s.is ∙ ap (closed_to F) (le_antisymm s.within h)
