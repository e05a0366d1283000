-- The mended entries go back one by one. Assumes nothing.
use Prim.Native.Nat.{ℕ, zero, suc, ◌+◌, ◌*◌, ◌/◌, ◌%◌, ◌<◌, ◌≤◌}
use mathlib.Core.Path.{◌≡◌, refl, sym, ap, ◌∙◌}
use mathlib.Core.List.{List, [], ◌∷◌, ◌++◌, map, map-append}
use native.Mathlib.Nat.{mod-lt, div-lt_iff_lt-mul}
use native.Mathlib.Numerals.{add-one}
use native.Mathlib.Omega.{arith}
use lib.ListN.{length, get_or, set, drop, length-drop, length-map, length-set}
use lib.Seq.{take-suc, get_or-drop}
use lib.Ieee.{Float, nan}
use Rattle.scratch.specs.Region.{region}
use Rattle.scratch.specs.Over.{over}
use Rattle.scratch.proofs.Region.{length_region}
use Rattle.scratch.proofs.Over.{over_push}
use Rattle.mending.specs.Places.{row_in, column_in}
use Rattle.mending.specs.Back.{Returnable, Returned}

pub some_variable : (n p : ℕ) → p < n * n → 0 < n
some_variable zero p h = absurd (omega arith)
some_variable (suc n) p h = omega arith

pub row_below : (n p : ℕ) → p < n * n → row_in n p < n
row_below n p h = mod-lt p (some_variable n p h)

pub column_below : (n p : ℕ) → p < n * n → column_in n p < n
column_below n p h = (div-lt_iff_lt-mul (some_variable n p h)).1 h

-- both fit 16 bits
module _ {n p x : ℕ} (few : n ≤ 4096) (e : p ≡ x) (h : x < n * n) where
  pub row_narrow : p % n < 4096
  row_narrow = let g : p < n * n = rw e h in omega (arith, row_below n p g)

  pub column_narrow : p / n < 4096
  column_narrow = let g : p < n * n = rw e h in omega (arith, column_below n p g)

-- a region with one element more
pub region_more : {A : Type 0} (a n : ℕ) (s : List A) (d : A) → a + n < length s → region a (n + 1) s ≡ region a n s ++ get_or s (a + n) d ∷ []
unfolding region
region_more {A} a n s d h =
    rw (add-one n) (take-suc (drop a s) n d (omega (arith, length-drop a s)) ∙ ap (λ (x : A). region a n s ++ x ∷ []) (get_or-drop a s n d))

-- where the writing stands: t entries are back
pub record Returning (n o : ℕ) (f : List Float) (u rows₀ rows cols₀ cols : List ℕ) (q₀ q : List Float) (t : ℕ) : Type 0 where
  pub within : t ≤ o
  pub rows_long : length rows ≡ length rows₀
  pub cols_long : length cols ≡ length cols₀
  pub quad_long : length q ≡ length q₀
  pub returned : Returned n t f u rows₀ rows cols₀ cols q₀ q

-- one element more over the front of a list
push : {A B : Type 0} (g : A → B) (a t : ℕ) (s : List A) (d : A) (old : List B) → a + t < length s → t < length old
    → set (over (map g (region a t s)) old) t (g (get_or s (a + t) d)) ≡ over (map g (region a (t + 1) s)) old
push {A} {B} g a t s d old h l =
    over_push (map g (region a t s)) old t (g (get_or s (a + t) d)) (length-map (region a t s) g ∙ length_region a t s (omega arith)) l
    ∙ ap (λ (x : List B). over x old) (sym (ap (map g) (region_more a t s d h) ∙ map-append g (region a t s) (get_or s (a + t) d ∷ [])))

module _ {n o : ℕ} {f : List Float} {u rows₀ cols₀ : List ℕ} {q₀ : List Float} (R : Returnable n o f u rows₀ cols₀ q₀) where
  pub returning_start : Returning n o f u rows₀ rows₀ cols₀ cols₀ q₀ q₀ 0
  unfolding region over
  returning_start = record { within = omega arith; rows_long = refl; cols_long = refl; quad_long = refl; returned = record { rows_are = refl; cols_are = refl; quad_is = refl } }

  module _ {rows cols : List ℕ} {q : List Float} {t : ℕ} (T : Returning n o f u rows₀ rows cols₀ cols q₀ q t) where
    pub returning_turn : t < o → {p : ℕ} → p ≡ get_or u (length q₀ + t) 0
        → Returning n o f u rows₀ (set rows t (p % n)) cols₀ (set cols t (p / n)) q₀ (set q t (get_or f (length q₀ + t) nan)) (t + 1)
    returning_turn h {p} e = record {
      within = omega arith;
      rows_long = length-set rows t (p % n) ∙ T.rows_long;
      cols_long = length-set cols t (p / n) ∙ T.cols_long;
      quad_long = length-set q t (get_or f (length q₀ + t) nan) ∙ T.quad_long;
      returned = record {
        rows_are = rw (e, T.returned.rows_are) (push (row_in n) (length q₀) t u 0 rows₀ (omega (arith, R.words)) (omega (arith, R.few, R.rows_long)));
        cols_are = rw (e, T.returned.cols_are) (push (column_in n) (length q₀) t u 0 cols₀ (omega (arith, R.words)) (omega (arith, R.few, R.cols_long)));
        quad_is = ap (λ (x : List Float). set x t (get_or f (length q₀ + t) nan)) T.returned.quad_is
            ∙ over_push (region (length q₀) t f) q₀ t (get_or f (length q₀ + t) nan) (length_region (length q₀) t f (omega (arith, R.floats))) (omega (arith, R.few))
            ∙ ap (λ (x : List Float). over x q₀) (sym (region_more (length q₀) t f nan (omega (arith, R.floats))));
      };
    }

    pub returning_done : o ≤ t → Returned n o f u rows₀ rows cols₀ cols q₀ q
    returning_done h = let e : t ≡ o = omega (arith, T.within) in rw e at T.returned
