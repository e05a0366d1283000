-- What one variable comes to: its error-free sum (rule 9.2), and the weight of its entries (rule 9.6). Assumes nothing.
use Rattle.std.specs.Prelude.{ℕ, ◌+◌, ◌<◌, ◌≤◌, ◌≡◌, Bool, cond, List, [], ◌∷◌, eqb, Float, Option}
use Rattle.std.specs.Float.{binary64}
use Rattle.std.specs.Float.Ieee.{add, mul, ne}
use Rattle.weights.specs.Worth.{magnitude, zero64, two64, four64}
use Rattle.expansion.specs.Sum.{Expansion, parts, plus, comes_to_zero, sum_in, count_of}
use Rattle.field.specs.Field.{Field, variables, linear_of, row_end, column_end, quad_of, Shaped}
use Rattle.places.specs.Places.{places, Adjacent}

-- entry k is on the diagonal
abbrev pub on_diagonal : Field → ℕ → Bool
on_diagonal F k = eqb (row_end F k) (column_end F k)

-- The 2q that an entry on the diagonal adds to a balance, in f64.
abbrev pub doubled : Field → ℕ → Float
doubled F k = mul binary64 two64 (quad_of F k)

-- q of an entry goes in, 2q of one on the diagonal; an entry of weight 0 off the diagonal is passed over
unfoldable pub balance_at : Field → Expansion → ℕ → Expansion
balance_at F e k = cond (on_diagonal F k) (plus (doubled F k) e) (cond (ne (quad_of F k) zero64) (plus (quad_of F k) e) e)

-- The error-free sum after each of these entries has been added in order.
unfoldable pub balance_over : Field → Expansion → List ℕ → Expansion
balance_over F e [] = e
balance_over F e (k ∷ ks) = balance_over F (balance_at F e k) ks

-- the error-free sum of 4c, then of q of each entry at i
unfoldable pub balance_of : Field → ℕ → Expansion
balance_of F i = balance_over F (plus (mul binary64 four64 (linear_of F i)) (parts [])) (places F.rows F.cols i)

-- The error-free sum of variable i is valid, and it is 0: the variable is symmetric.
unfoldable pub balanced : Field → ℕ → Bool
balanced F i = comes_to_zero (balance_of F i)

-- q of each of these entries added in f64, in order, as the code does on an exact field.
unfoldable pub plain_over : Field → Float → List ℕ → Float
plain_over F x [] = x
plain_over F x (k ∷ ks) = plain_over F (add binary64 x (quad_of F k)) ks

-- 4c of i and q of each entry at i added in f64: the balance, on an exact field, where no sum rounds.
unfoldable pub plain_sum : Field → ℕ → Float
plain_sum F i = plain_over F (mul binary64 four64 (linear_of F i)) (places F.rows F.cols i)

-- The edge weight after entry k: |q| is added where the entry is off the diagonal and not 0.
unfoldable pub weight_at : Field → Float → ℕ → Float
weight_at F w k = cond (on_diagonal F k) w (cond (ne (quad_of F k) zero64) (add binary64 w (magnitude (quad_of F k))) w)

-- The edge weight after |q| of each of these entries has been added in order.
unfoldable pub weight_over : Field → Float → List ℕ → Float
weight_over F w [] = w
weight_over F w (k ∷ ks) = weight_over F (weight_at F w k) ks

-- The edge weight of variable i: |q| of its entries off the diagonal, added in f64 in entry order.
unfoldable pub weight_of : Field → ℕ → Float
weight_of F i = weight_over F zero64 (places F.rows F.cols i)

-- ---- the code's view of it

-- Adding entry k at a variable does to the code's sum what it does to the model's.
pub record AddsAt (F : Field) (k : ℕ) (s : Option ℕ) (f f' : List Float) (r : Option ℕ) : Type 0 where
  pub sum : sum_in r f' ≡ balance_at F (sum_in s f) k
  pub grows : count_of r ≤ count_of s + 1

-- what a walk along the places of variable i asks
pub record Walkable (F : Field) (i : ℕ) (u : List ℕ) : Type 0 where
  pub shaped : Shaped F
  pub adjacent : Adjacent (variables F) F.rows F.cols u
  pub below : i < variables F
