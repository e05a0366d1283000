-- The bounds of a record, row by row. Assumes nothing.
use Prim.Native.Nat.{ℕ, ◌+◌, ◌<◌}
use mathlib.Core.Path.{◌≡◌, refl, sym, ap, ◌∙◌}
use mathlib.Core.List.{List, ◌++◌}
use native.Mathlib.Omega.{arith}
use lib.ListN.{length, get_or, length-append, drop_of_length-le, get_or-append}
use lib.Seq.{get_or-append-add}
use lib.Ieee.{Float, nan}
use Rattle.field.specs.Field.{Field, variables}
use Rattle.rows.specs.declared.Row.{Row}
use Rattle.rows.specs.Stored.{row_on, up_to, Written}
use Rattle.rows.proofs.Upto.{length_up_to, get_d_up_to}
use Rattle.rows.proofs.Stored.{written_unique}
use Rattle.kept.specs.Kept.{afresh, bounds_of, made}

module _ (g : ℕ → Row) (n : ℕ) where
  pub length_bounds : length (bounds_of g n) ≡ n + n
  unfolding bounds_of
  length_bounds = omega (
    arith,
    length-append (up_to (λ t. (g t).lower) n) (up_to (λ t. (g t).upper) n),
    length_up_to (λ t. (g t).lower) n,
    length_up_to (λ t. (g t).upper) n,
  )

  pub bounds_row : (t : ℕ) → t < n → row_on (bounds_of g n) n t ≡ g t
  unfolding bounds_of
  bounds_row t l =
      let low = up_to (λ t. (g t).lower) n in
      let up = up_to (λ t. (g t).upper) n in
      let long : length low ≡ n = length_up_to (λ t. (g t).lower) n in
      let a : get_or (low ++ up) t nan ≡ (g t).lower = get_or-append low up nan t (omega arith) ∙ get_d_up_to (λ t. (g t).lower) n t nan l in
      let b : get_or (low ++ up) (n + t) nan ≡ (g t).upper = ap (λ (k : ℕ). get_or (low ++ up) (k + t) nan) (sym long) ∙ get_or-append-add low up t nan ∙ get_d_up_to (λ t. (g t).upper) n t nan l in
      rw (a, b) refl

  -- what holds these rows, and nothing more, is their bounds
  pub bounds_are : {f₀ f : List Float} → length f₀ ≡ n + n → Written n g f₀ f n → f ≡ bounds_of g n
  bounds_are {f₀} {f} long w = written_unique w (record {
    long = length_bounds ∙ sym long;
    rows = bounds_row;
    rest = drop_of_length-le (bounds_of g n) {i = n + n} (omega (arith, length_bounds)) ∙ sym (drop_of_length-le f₀ {i = n + n} (omega arith));
  })

module _ (F : Field) (s : List ℕ) where
  pub made_long : length (made F s).bounds ≡ variables F + variables F
  unfolding made
  made_long = length_bounds (afresh F s) (variables F)

  pub made_row : (t : ℕ) → t < variables F → row_on (made F s).bounds (variables F) t ≡ afresh F s t
  unfolding made
  made_row = bounds_row (afresh F s) (variables F)
