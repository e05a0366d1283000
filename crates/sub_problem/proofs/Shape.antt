-- The smaller problem is a field shaped as a field must be, and in standard form where the field was. Assumes nothing.
use Prim.Native.Nat.{ℕ, ◌+◌, ◌<◌}
use mathlib.Core.Path.{◌≡◌, refl, sym, ap, ◌∙◌}
use mathlib.Core.Bool.{Bool, true, false, ◌&&◌, false≢true}
use mathlib.Core.List.{List}
use native.Mathlib.Omega.{arith}
use lib.ListN.{length, get_or, length-map}
use lib.Ieee.{nan}
use Rattle.meaning.specs.Free.{is_free}
use Rattle.field.specs.Field.{Field, variables, entries, linear_of, row_end, column_end, quad_of, Shaped, Standard}
use Rattle.field.proofs.Order.{before_all}
use Rattle.sub_problem.specs.Reduced.{back, new_index, stays_at, stays, adjusted, reduced}
use Rattle.shift.proofs.Picked.{map_at, picked_few, picked_at, picked_rises}
use Rattle.sub_problem.proofs.Numbering.{back_few, new_below, back_new, before_new}

pub both_true : (a b : Bool) → (a && b) ≡ true → (a ≡ true) × (b ≡ true)
both_true true true e = (refl, refl)
both_true true false e = absurd (false≢true e)
both_true false b e = absurd (false≢true e)

-- ---- the smaller problem

module _ (F : Field) (s : List ℕ) where
  pub new_variables : variables (reduced F s) ≡ length (back s)
  new_variables = length-map (back s) (adjusted F s)

  pub new_entries : entries (reduced F s) ≡ length (stays F s)
  new_entries = length-map (stays F s) (quad_of F)

  pub new_linear : (t : ℕ) → t < length (back s) → linear_of (reduced F s) t ≡ adjusted F s (get_or (back s) t 0)
  new_linear t h = map_at (adjusted F s) (back s) t nan h

  -- entry t is the one that stood at its place, with both ends renumbered
  module _ (t : ℕ) (h : t < length (stays F s)) where
    abbrev place : ℕ
    place = get_or (stays F s) t 0

    pub new_row : row_end (reduced F s) t ≡ new_index s (row_end F (get_or (stays F s) t 0))
    new_row = map_at (λ k. new_index s (row_end F k)) (stays F s) t 0 h

    pub new_column : column_end (reduced F s) t ≡ new_index s (column_end F (get_or (stays F s) t 0))
    new_column = map_at (λ k. new_index s (column_end F k)) (stays F s) t 0 h

    pub new_quad : quad_of (reduced F s) t ≡ quad_of F (get_or (stays F s) t 0)
    new_quad = map_at (quad_of F) (stays F s) t nan h

    pub stood : get_or (stays F s) t 0 < entries F
    stood = (picked_at (stays_at F s) (entries F) t h).0

    ends_free : (is_free s (row_end F place) ≡ true) × (is_free s (column_end F place) ≡ true)
    ends_free = both_true (is_free s (row_end F place)) (is_free s (column_end F place)) (picked_at (stays_at F s) (entries F) t h).1

    pub row_free : is_free s (row_end F (get_or (stays F s) t 0)) ≡ true
    row_free = ends_free.0

    pub column_free : is_free s (column_end F (get_or (stays F s) t 0)) ≡ true
    column_free = ends_free.1

  module _ (S : Shaped F) (long : length s ≡ variables F) where
    pub reduced_standard : Standard F → Standard (reduced F s)
    reduced_standard standard t h e =
        let l : t < length (stays F s) = omega (arith, new_entries) in
        let k = get_or (stays F s) t 0 in
        let row : get_or (back s) (new_index s (row_end F k)) 0 ≡ row_end F k = back_new s (row_end F k) (row_free t l) (omega (arith, S.row_below k (stood t l))) in
        let column : get_or (back s) (new_index s (column_end F k)) 0 ≡ column_end F k = back_new s (column_end F k) (column_free t l) (omega (arith, S.column_below k (stood t l))) in
        standard k (stood t l) (sym row ∙ ap (λ (i : ℕ). get_or (back s) i 0) (sym (new_row t l) ∙ e ∙ new_column t l) ∙ column)

    pub reduced_shaped : Shaped (reduced F s)
    reduced_shaped = record {
      few_variables = omega (arith, S.few_variables, new_variables, back_few s);
      few_entries = omega (arith, new_entries, picked_few (stays_at F s) (entries F), S.few_entries);
      rows_long = length-map (stays F s) (λ k. new_index s (row_end F k)) ∙ sym new_entries;
      cols_long = length-map (stays F s) (λ k. new_index s (column_end F k)) ∙ sym new_entries;
      row_below = λ t h.
          let l : t < length (stays F s) = omega (arith, new_entries) in
          rw (new_row t l, new_variables) (new_below s (row_end F (get_or (stays F s) t 0)) (row_free t l) (omega (arith, S.row_below (get_or (stays F s) t 0) (stood t l))));
      column_below = λ t h.
          let l : t < length (stays F s) = omega (arith, new_entries) in
          rw (new_column t l, new_variables) (new_below s (column_end F (get_or (stays F s) t 0)) (column_free t l) (omega (arith, S.column_below (get_or (stays F s) t 0) (stood t l))));
      rising = λ t h.
          let l : t + 1 < length (stays F s) = omega (arith, new_entries) in
          let k : t < length (stays F s) = omega arith in
          rw (new_row t k, new_column t k, new_row (t + 1) l, new_column (t + 1) l)
          (before_new s (row_end F (get_or (stays F s) t 0)) (column_end F (get_or (stays F s) t 0)) (row_end F (get_or (stays F s) (t + 1) 0)) (column_end F (get_or (stays F s) (t + 1) 0)) (row_free t k) (column_free t k)
          (before_all S (get_or (stays F s) t 0) (get_or (stays F s) (t + 1) 0) (picked_rises (stays_at F s) (entries F) t (t + 1) (omega arith) l) (stood (t + 1) l)));
    }
