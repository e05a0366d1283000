-- The linear part and the mass of every variable in lent floats: of n variables, that of t at t and at n + t. Assumes nothing.
use Rattle.std.specs.Prelude.{ℕ, ◌+◌, ◌<◌, ◌≤◌, ◌≡◌, cond, List, eqb, pos, length, get_or, set, Float}
use Rattle.std.specs.Float.{nan, binary64}
use Rattle.std.specs.Float.Ieee.{add, mul, of_int}
use Rattle.weights.specs.Worth.{magnitude}
use Rattle.field.specs.Field.{Field, variables, linear_of, row_end, column_end}
use Rattle.rows.specs.Model.{coeff_of}
use Rattle.margins.specs.Model.{add_fixed_end, add_magnitude, over_ends}

-- x with coefficient times value of an end added, where that end has a value; else x.
abbrev pub fixed_term : Float → Float → ℕ → Float
fixed_term x a v = cond (eqb v 2) x (add binary64 x (mul binary64 a (of_int binary64 (pos v))))

-- one end t of an entry, whose other end has the byte v
unfoldable pub add_end : List Float → ℕ → ℕ → Float → ℕ → List Float
add_end f n t a v = set (set f t (fixed_term (get_or f t nan) a v)) (n + t) (add binary64 (get_or f (n + t) nan) (magnitude a))

-- The linear parts and masses after entry k has been counted at both of its ends.
unfoldable pub add_both : Field → List ℕ → List Float → ℕ → List Float
add_both F s f k =
    add_end
    (add_end f (variables F) (row_end F k) (coeff_of F k) (get_or s (column_end F k) 0))
    (variables F) (column_end F k) (coeff_of F k) (get_or s (row_end F k) 0)

-- of n variables the linear parts below j are g, and the masses h
pub record PartsAre (n : ℕ) (g h : ℕ → Float) (f : List Float) (j : ℕ) : Type 0 where
  pub room : n + n ≤ length f
  pub linear : (i : ℕ) → i < j → get_or f i nan ≡ g i
  pub mass : (i : ℕ) → i < j → get_or f (n + i) nan ≡ h i

-- The linear parts and masses of all variables are the model's after k entries.
abbrev pub Parted : Field → List ℕ → List Float → ℕ → Type 0
Parted F s f k =
    PartsAre (variables F) (λ i. over_ends (add_fixed_end s) F i (linear_of F i) k) (λ i. over_ends add_magnitude F i (magnitude (linear_of F i)) k) f (variables F)
