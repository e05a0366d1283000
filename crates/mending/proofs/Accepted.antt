-- The mended list: the entry checks accept it, it keeps the named places, and each weight is the sum in input order. Assumes nothing.
use Prim.Native.Nat.{ℕ, zero, suc, ◌+◌, ◌*◌, ◌<◌, ◌≤◌}
use mathlib.Core.Path.{◌≡◌, refl, sym, ap, ◌∙◌, subst}
use mathlib.Core.Logic.{inl, inr, ⊎_elim, ◌↔◌}
use mathlib.Core.Bool.{Bool, true, false, ◌&&◌, true≢false}
use mathlib.Core.List.{List, [], ◌∷◌, map}
use native.Mathlib.Nat.{eq-or-lt_of_le, mul-le-mul_right, add-mul, one-mul}
use native.Mathlib.Omega.{arith}
use borrow.Author.Tests.{ltb-true, ltb-false}
use lib.Dec.{T, ltb}
use lib.ListN.{length, get_or, length-map}
use lib.Ieee.{nan}
use lib.Ieee.Scale.{finite}
use Rattle.scratch.specs.All.{all_below}
use Rattle.scratch.proofs.All.{all_means, all_stop}
use Rattle.field.specs.Field.{Field, variables, entries, row_end, column_end, quad_of, linear_of, Before, Shaped}
use Rattle.field.specs.Faults.{Listed}
use Rattle.field.specs.Tests.{Loose}
use Rattle.mending.specs.Places.{all_places, place_of, entries_at, sum_at, sums_finite, is_empty, places_to, places_of, row_in, column_in, mended}
use Rattle.mending.specs.Meaning.{Named, sum_of, Overflow}
use Rattle.mending.proofs.Entries.{place_inside}
use Rattle.mending.proofs.Marks.{places_few}
use Rattle.mending.proofs.Kept.{parts_of, number_of, at_place, place_at, sum_is, stands, places_rise, place_below, place_named, names, some_before}
use Rattle.mending.proofs.Returning.{row_below, column_below}

-- element t of a mapped list
pub map_at : {A : Type 0} (g : ℕ → A) (l : List ℕ) (t : ℕ) (d : A) → t < length l → get_or (map g l) t d ≡ g (get_or l t 0)
map_at g [] t d h = absurd (omega arith)
map_at g (x ∷ l) zero d h = refl
map_at g (x ∷ l) (suc t) d h = map_at g l t d (omega arith)

-- of two places the lower stands before the higher
lower_before : (n p q : ℕ) → p < n * n → q < n * n → p < q → Before (row_in n p) (column_in n p) (row_in n q) (column_in n q)
lower_before n p q P Q h = go (ltb (column_in n p) (column_in n q)) refl
  where
    go : (b : Bool) → ltb (column_in n p) (column_in n q) ≡ b → Before (row_in n p) (column_in n p) (row_in n q) (column_in n q)
    go true e = inl (ltb-true _ _ e)
    go false e = ⊎_elim (λ z. inr (sym z, same z)) (λ z. absurd (higher z)) (eq-or-lt_of_le (ltb-false _ _ e))
      where
        same : column_in n q ≡ column_in n p → row_in n p < row_in n q
        same z = omega (arith, number_of n p, number_of n q, ap (λ (c : ℕ). c * n) z)

        higher : column_in n q < column_in n p → ⊥
        higher z =
            let i : suc (column_in n q) * n ≤ column_in n p * n = mul-le-mul_right n z in
            omega (arith, number_of n p, number_of n q, row_below n q Q, i, add-mul (column_in n q) 1 n, one-mul n)

-- a test that does not hold everywhere fails somewhere
first_fault : (p : ℕ → Bool) (n : ℕ) → all_below p n ≡ false → (k : ℕ) × ((k < n) × (p k ≡ false))
unfolding all_below
first_fault p zero e = absurd (true≢false e)
first_fault p (suc n) e = go (p n) refl e (first_fault p n)
  where
    go : (b : Bool) → p n ≡ b → (b && all_below p n) ≡ false → (all_below p n ≡ false → (k : ℕ) × ((k < n) × (p k ≡ false))) → (k : ℕ) × ((k < suc n) × (p k ≡ false))
    go true q z f = let w = f z in (w.0, (omega (arith, w.1.0), w.1.1))
    go false q z f = (n, (omega arith, q))

module _ (F : Field) where
  -- ---- what stands at position t

  pub mended_long : entries (mended F) ≡ length (places_of F)
  unfolding mended
  mended_long = length-map (places_of F) (sum_at F)

  module _ (t : ℕ) (h : t < length (places_of F)) where
    pub mended_row : row_end (mended F) t ≡ row_in (variables F) (get_or (places_of F) t 0)
    unfolding mended
    mended_row = map_at (row_in (variables F)) (places_of F) t 0 h

    pub mended_column : column_end (mended F) t ≡ column_in (variables F) (get_or (places_of F) t 0)
    unfolding mended
    mended_column = map_at (column_in (variables F)) (places_of F) t 0 h

    pub mended_quad : quad_of (mended F) t ≡ sum_at F (get_or (places_of F) t 0)
    unfolding mended
    mended_quad = map_at (sum_at F) (places_of F) t nan h

    row_fits : row_end (mended F) t < variables F
    row_fits = rw mended_row (row_below (variables F) (get_or (places_of F) t 0) (place_below F t h))

    column_fits : column_end (mended F) t < variables F
    column_fits = rw mended_column (column_below (variables F) (get_or (places_of F) t 0) (place_below F t h))

    -- its place, as a number
    pub mended_place : column_end (mended F) t * variables F + row_end (mended F) t ≡ get_or (places_of F) t 0
    mended_place = rw (mended_row, mended_column) (number_of (variables F) (get_or (places_of F) t 0))

    -- repeats at one place are added in the order given
    pub sum_in_order : quad_of (mended F) t ≡ sum_of F (row_end (mended F) t) (column_end (mended F) t)
    sum_in_order = mended_quad ∙ ap (sum_at F) (sym mended_place) ∙ sym (sum_is F (row_end (mended F) t) (column_end (mended F) t) row_fits column_fits)

  same_variables : variables (mended F) ≡ variables F
  unfolding mended
  same_variables = refl

  -- ---- what is left passes the tests of entries

  pub mended_shaped : Listed F → Shaped (mended F)
  unfolding mended
  mended_shaped L = record {
    few_variables = L.few_variables;
    few_entries = omega (arith, length-map (places_of F) (sum_at F), places_few F, L.few_entries);
    rows_long = length-map (places_of F) (row_in (variables F)) ∙ sym (length-map (places_of F) (sum_at F));
    cols_long = length-map (places_of F) (column_in (variables F)) ∙ sym (length-map (places_of F) (sum_at F));
    row_below = λ k l. row_fits k (omega (arith, length-map (places_of F) (sum_at F)));
    column_below = λ k l. column_fits k (omega (arith, length-map (places_of F) (sum_at F)));
    rising = λ k l.
        let long = length-map (places_of F) (sum_at F) in
        let h : k + 1 < length (places_of F) = omega (arith, long) in
        let g : k < length (places_of F) = omega (arith, long) in
        rw (mended_row k g, mended_column k g, mended_row (k + 1) h, mended_column (k + 1) h)
        (lower_before (variables F) (get_or (places_of F) k 0) (get_or (places_of F) (k + 1) 0) (place_below F k g) (place_below F (k + 1) h) (places_rise F k (k + 1) (omega arith) h));
  }

  finite_sums : sums_finite F ≡ true → (p : ℕ) → p < all_places F → finite (sum_at F p) ≡ true
  unfolding sums_finite
  finite_sums e = (all_means (λ p. finite (sum_at F p)) (all_places F)).0 e

  pub mended_loose : Listed F → ((i : ℕ) → i < variables F → T (finite (linear_of F i))) → sums_finite F ≡ true → Loose (mended F)
  unfolding mended
  mended_loose L c e = record {
    shaped = mended_shaped L;
    finite_weights = record {
      linear = c;
      quad = λ k l.
          let h : k < length (places_of F) = omega (arith, length-map (places_of F) (sum_at F)) in
          rw (mended_quad k h, finite_sums e (get_or (places_of F) k 0) (place_below F k h)) tt;
    };
  }

  -- ---- every place named inside the field is there, and no other

  module _ (r c : ℕ) where
    pub keeps : Named F r c → Named (mended F) r c
    unfolding mended
    keeps N =
        let n = variables F in
        let p = c * n + r in
        let at : place_of F N.by ≡ p = place_at F r c N.row_below N.column_below N.by N.row N.column in
        let S = stands F p (place_inside n r c N.row_below N.column_below) (names F p (entries F) N.by N.entry at) in
        let P = parts_of n r c N.row_below in
        record {
          row_below = N.row_below;
          column_below = N.column_below;
          by = length (places_to F p);
          entry = omega (arith, S.0, length-map (places_of F) (sum_at F));
          row = mended_row (length (places_to F p)) S.0 ∙ ap (row_in n) S.1 ∙ P.1;
          column = mended_column (length (places_to F p)) S.0 ∙ ap (column_in n) S.1 ∙ P.0;
        }

    pub only_named : Named (mended F) r c → Named F r c
    only_named N =
        let n = variables F in
        let R : r < n = rw same_variables at N.row_below in
        let C : c < n = rw same_variables at N.column_below in
        let h : N.by < length (places_of F) = omega (arith, N.entry, mended_long) in
        let is : get_or (places_of F) N.by 0 ≡ c * n + r = sym (mended_place N.by h) ∙ rw (N.row, N.column) in
        let K = some_before F (c * n + r) (entries F) (subst (λ (p : ℕ). is_empty (entries_at F p) ≡ false) is (place_named F N.by h)) in
        let A = at_place F r c R C K.0 K.1.1 in
        record { row_below = R; column_below = C; by = K.0; entry = K.1.0; row = A.0; column = A.1 }

  -- ---- 18

  pub overflow_means : (sums_finite F ≡ false) ↔ Overflow F
  unfolding sums_finite
  overflow_means = (
    (λ e.
        let w = first_fault (λ p. finite (sum_at F p)) (all_places F) e in
        let n = variables F in
        let p = w.0 in
        let R = row_below n p w.1.0 in
        let C = column_below n p w.1.0 in
        record {
          row = row_in n p;
          column = column_in n p;
          row_below = R;
          column_below = C;
          sum = ap (λ x. finite x) (sum_is F (row_in n p) (column_in n p) R C ∙ ap (sum_at F) (number_of n p)) ∙ w.1.1;
        }),
    λ O. sym (all_stop (λ p. finite (sum_at F p)) (O.column * variables F + O.row) (place_inside (variables F) O.row O.column O.row_below O.column_below)
        (ap (λ x. finite x) (sym (sum_is F O.row O.column O.row_below O.column_below)) ∙ O.sum)),
  )
