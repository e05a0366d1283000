-- The entries that are kept: where they stood, and that the field of them is shaped and in standard form. Assumes nothing.
use Prim.Native.Nat.{ℕ, ◌+◌, ◌<◌}
use mathlib.Core.Path.{◌≡◌, sym, ap, ◌∙◌}
use mathlib.Core.Bool.{false}
use mathlib.Core.List.{List, map}
use native.Mathlib.Omega.{arith}
use borrow.Author.Tests.{eqb-false, not-true}
use lib.ListN.{length, get_or, take, length-map}
use lib.Ieee.{nan}
use Rattle.scratch.specs.Over.{over}
use Rattle.scratch.proofs.Over.{over_front}
use Rattle.field.specs.Field.{Field, field_of, variables, entries, row_end, column_end, quad_of, Shaped, Standard}
use Rattle.field.proofs.Order.{before_all}
use Rattle.shift.specs.Closing.{on_diagonal, linear_to, kept_at, kept_to, closed_to, closed}
use Rattle.shift.specs.Shifted.{shifted}
use Rattle.shift.proofs.Picked.{map_at, picked_few, picked_at, picked_rises}
use Rattle.shift.proofs.Turns.{linear_long}

-- ---- the new field

module _ (F : Field) where
  -- the positions of its entries in the field as it was given
  abbrev pub from : List ℕ
  from = kept_to F (entries F)

  -- each was given, off the diagonal
  off : (t : ℕ) → t < length from → (get_or from t 0 < entries F) × (on_diagonal F (get_or from t 0) ≡ false)
  off t h = let p = picked_at (kept_at F) (entries F) t h in (p.0, not-true _ p.1)

  front : {A : Type 0} (g : ℕ → A) (old : List A) → take (length from) (over (map g from) old) ≡ map g from
  front g old = over_front (map g from) old (length-map from g)

  pub shifted_is : shifted F ≡ field_of (linear_to F (entries F)) (map (row_end F) from) (map (column_end F) from) (map (quad_of F) from)
  unfolding closed closed_to
  shifted_is = rw (front (row_end F) F.rows, front (column_end F) F.cols, front (quad_of F) F.quad)

  pub new_variables : variables (shifted F) ≡ variables F
  unfolding closed closed_to
  new_variables = linear_long F (entries F)

  pub new_entries : entries (shifted F) ≡ length from
  new_entries = ap entries shifted_is ∙ length-map from (quad_of F)

  -- entry t of the new field is the one that stood at its place
  module _ (t : ℕ) (h : t < length from) where
    pub new_row : row_end (shifted F) t ≡ row_end F (get_or from t 0)
    new_row = ap (λ (G : Field). row_end G t) shifted_is ∙ map_at (row_end F) from t 0 h

    pub new_column : column_end (shifted F) t ≡ column_end F (get_or from t 0)
    new_column = ap (λ (G : Field). column_end G t) shifted_is ∙ map_at (column_end F) from t 0 h

    pub new_quad : quad_of (shifted F) t ≡ quad_of F (get_or from t 0)
    new_quad = ap (λ (G : Field). quad_of G t) shifted_is ∙ map_at (quad_of F) from t nan h

  -- it is in standard form
  pub shifted_standard : Standard (shifted F)
  shifted_standard t h =
      let l : t < length from = omega (arith, new_entries) in
      rw (new_row t l, new_column t l) (eqb-false _ _ (off t l).1)

  -- and shaped
  pub shifted_shaped : Shaped F → Shaped (shifted F)
  shifted_shaped S = record {
    few_variables = omega (arith, S.few_variables, new_variables);
    few_entries = omega (arith, new_entries, picked_few (kept_at F) (entries F), S.few_entries);
    rows_long = ap (λ (G : Field). length G.rows) shifted_is ∙ length-map from (row_end F) ∙ sym new_entries;
    cols_long = ap (λ (G : Field). length G.cols) shifted_is ∙ length-map from (column_end F) ∙ sym new_entries;
    row_below = λ t h. let l : t < length from = omega (arith, new_entries) in rw (new_row t l, new_variables) (S.row_below _ (off t l).0);
    column_below = λ t h. let l : t < length from = omega (arith, new_entries) in rw (new_column t l, new_variables) (S.column_below _ (off t l).0);
    rising = λ t h.
        let l : t + 1 < length from = omega (arith, new_entries) in
        let k : t < length from = omega arith in
        rw (new_row t k, new_column t k, new_row (t + 1) l, new_column (t + 1) l)
        (before_all S (get_or from t 0) (get_or from (t + 1) 0) (picked_rises (kept_at F) (entries F) t (t + 1) (omega arith) l) (off (t + 1) l).0);
  }
