-- How one entry more is closed up. Assumes nothing.
use Prim.Native.Nat.{ℕ, zero, suc, ◌+◌, ◌<◌}
use mathlib.Core.Path.{◌≡◌, refl, sym, ◌∙◌}
use mathlib.Core.Logic.{◌≢◌}
use mathlib.Core.Bool.{Bool, true, false, cond, not}
use mathlib.Core.List.{List, [], ◌∷◌, ◌++◌, map}
use borrow.Author.Tests.{eq-eqb, ne_eqb}
use lib.Dec.{eqb}
use lib.ListN.{length, get_or, set, length-append, length-set}
use lib.Ieee.{Float, nan, binary64, add, mul}
use Rattle.weights.specs.Worth.{half64}
use Rattle.scratch.specs.Over.{over}
use Rattle.field.specs.Field.{Field, field_of, row_end, column_end, quad_of}
use Rattle.shift.specs.Picked.{picked}
use Rattle.shift.specs.Closing.{on_diagonal, into_linear, linear_to, kept_at, kept_to, closing, closed_to, close_at}
use Rattle.shift.proofs.Picked.{picked_past, picked_push}

-- ---- the linear weights

pub linear_long : (F : Field) (k : ℕ) → length (linear_to F k) ≡ length F.linear
unfolding linear_to
linear_long F zero = refl
linear_long F (suc k) = by (on_diagonal F k) (linear_long F k)
  where
    by : (b : Bool) → length (linear_to F k) ≡ length F.linear → length (cond b (into_linear F k (linear_to F k)) (linear_to F k)) ≡ length F.linear
    by true h = length-set (linear_to F k) _ _ ∙ h
    by false h = h

-- ---- one entry, as the code does it

module _ (c : List Float) (rows cols : List ℕ) (q : List Float) (k kept : ℕ) {r t : ℕ} (er : r ≡ get_or rows k 0) (et : t ≡ get_or cols k 0) where
  pub goes_in : {h : Float} → r ≡ t → h ≡ mul binary64 half64 (get_or q k nan)
      → closing (field_of (set c r (add binary64 (get_or c r nan) h)) rows cols q) kept ≡ close_at k (closing (field_of c rows cols q) kept)
  unfolding close_at
  goes_in e eh = rw (eq-eqb (get_or rows k 0) (get_or cols k 0) (sym er ∙ e ∙ et), er, eh)

  pub moves_up : r ≢ t
      → closing (field_of c (set rows kept (get_or rows k 0)) (set cols kept (get_or cols k 0)) (set q kept (get_or q k nan))) (kept + 1) ≡ close_at k (closing (field_of c rows cols q) kept)
  unfolding close_at
  moves_up n = rw (ne_eqb (get_or rows k 0) (get_or cols k 0) (λ e. n (er ∙ e ∙ sym et)))

-- what it reads at entry k
module _ (k : ℕ) (G : Field) (kept : ℕ) {i j : ℕ} {x : Float} (ei : row_end G k ≡ i) (ej : column_end G k ≡ j) (ex : quad_of G k ≡ x) where
  reads : close_at k (closing G kept)
      ≡ cond (eqb i j) (closing (field_of (set G.linear i (add binary64 (get_or G.linear i nan) (mul binary64 half64 x))) G.rows G.cols G.quad) kept)
      (closing (field_of G.linear (set G.rows kept i) (set G.cols kept j) (set G.quad kept x)) (kept + 1))
  unfolding close_at
  reads = rw (ei, ej, ex)

-- ---- one entry more

module _ (F : Field) (k : ℕ) (in_rows : k < length F.rows) (in_cols : k < length F.cols) (in_quad : k < length F.quad) where
  pub closes_one : close_at k (closed_to F k) ≡ closed_to F (suc k)
  unfolding closed_to linear_to picked
  closes_one =
      reads k (closed_to F k).lists (length (kept_to F k)) (picked_past (kept_at F) (row_end F) F.rows k 0) (picked_past (kept_at F) (column_end F) F.cols k 0) (picked_past (kept_at F) (quad_of F) F.quad k nan)
      ∙ by (on_diagonal F k)
    where
      by : (b : Bool) → cond b (closing (field_of (into_linear F k (linear_to F k)) (closed_to F k).lists.rows (closed_to F k).lists.cols (closed_to F k).lists.quad) (length (kept_to F k)))
          (closing (field_of (linear_to F k) (set (closed_to F k).lists.rows (length (kept_to F k)) (row_end F k)) (set (closed_to F k).lists.cols (length (kept_to F k)) (column_end F k))
          (set (closed_to F k).lists.quad (length (kept_to F k)) (quad_of F k))) (length (kept_to F k) + 1))
          ≡ closing (field_of (cond b (into_linear F k (linear_to F k)) (linear_to F k)) (over (map (row_end F) (cond (not b) (kept_to F k ++ k ∷ []) (kept_to F k))) F.rows)
          (over (map (column_end F) (cond (not b) (kept_to F k ++ k ∷ []) (kept_to F k))) F.cols) (over (map (quad_of F) (cond (not b) (kept_to F k ++ k ∷ []) (kept_to F k))) F.quad))
          (length (cond (not b) (kept_to F k ++ k ∷ []) (kept_to F k)))
      by true = refl
      by false = rw (picked_push (kept_at F) (row_end F) F.rows k in_rows, picked_push (kept_at F) (column_end F) F.cols k in_cols, picked_push (kept_at F) (quad_of F) F.quad k in_quad, length-append (kept_to F k) (k ∷ []))
