-- Rows in lent floats: of n rows at the front, row t has its lower bound at t and its upper bound at n + t. Assumes nothing.
use Rattle.std.specs.Prelude.{ℕ, zero, suc, ◌+◌, ◌<◌, ◌≤◌, ◌≡◌, List, [], ◌∷◌, ◌++◌, length, get_or, set, drop, Float}
use Rattle.std.specs.Float.{nan}
use Rattle.field.specs.Field.{Field, variables, entries, row_end, column_end, Shaped}
use Rattle.rows.specs.declared.Row.{Row}
use Rattle.rows.specs.Row.{add_term}
use Rattle.rows.specs.Model.{coeff_of, row_to, row_of}

-- Row t as it stands in lent floats f at the front of which n rows are kept.
abbrev pub row_on : List Float → ℕ → ℕ → Row
row_on f n t = record { lower = get_or f t nan; upper = get_or f (n + t) nan }

-- The lent floats with row t replaced: both of its bounds written, and nothing else.
abbrev pub put_row : List Float → ℕ → ℕ → Row → List Float
put_row f n t r = set (set f t r.lower) (n + t) r.upper

-- The lent floats after the term of an end with the byte v went into row t.
unfoldable pub add_at : List Float → ℕ → ℕ → Float → ℕ → List Float
add_at f n t a v = put_row f n t (add_term (row_on f n t) a v)

-- entry k's term goes into the row of each end
unfoldable pub add_entry : Field → List ℕ → List Float → ℕ → List Float
add_entry F s f k =
    add_at
    (add_at f (variables F) (row_end F k) (coeff_of F k) (get_or s (column_end F k) 0))
    (variables F) (column_end F k) (coeff_of F k) (get_or s (row_end F k) 0)

-- g 0, g 1 and so on below n, as a list
unfoldable pub up_to : {A : Type 0} → (ℕ → A) → ℕ → List A
up_to g zero = []
up_to g (suc n) = up_to g n ++ (g n ∷ [])

-- all n rows, as a list
abbrev pub rows_on : List Float → ℕ → List Row
rows_on f n = up_to (row_on f n) n

-- of n rows the first j are g 0, g 1 and so on; in its length and past its rows f is as f₀ was
pub record Written (n : ℕ) (g : ℕ → Row) (f₀ f : List Float) (j : ℕ) : Type 0 where
  pub long : length f ≡ length f₀
  pub rows : (i : ℕ) → i < j → row_on f n i ≡ g i
  pub rest : drop (n + n) f ≡ drop (n + n) f₀

-- what a pass over the entries needs: a value for each variable, and room for two bounds of each
pub record Fillable (F : Field) (s : List ℕ) (f : List Float) : Type 0 where
  pub shaped : Shaped F
  pub values_long : length s ≡ variables F
  pub room : variables F + variables F ≤ length f

-- where the pass stands after k entries
pub record Passed (F : Field) (s : List ℕ) (f₀ f : List Float) (k : ℕ) : Type 0 where
  pub ready : Fillable F s f₀
  pub within : k ≤ entries F
  pub written : Written (variables F) (λ i. row_to F s i k) f₀ f (variables F)

-- All rows that stand in f are the model's, and the rest of it is as it was.
abbrev pub Filled : Field → List ℕ → List Float → List Float → Type 0
Filled F s f₀ f = Written (variables F) (row_of F s) f₀ f (variables F)
