-- The model of a row: row i of a field at given values (rules 4.1 to 4.3). Assumes nothing.
use Rattle.std.specs.Prelude.{ℕ, zero, suc, cond, List, eqb, get_or, Float}
use Rattle.std.specs.Float.{binary64}
use Rattle.std.specs.Float.Ieee.{mul}
use Rattle.weights.specs.Worth.{half64}
use Rattle.field.specs.Field.{Field, entries, linear_of, row_end, column_end, quad_of}
use Rattle.rows.specs.declared.Row.{Row}
use Rattle.rows.specs.Row.{start_row, add_term}

-- entry k's coefficient, 0.5q, which is that of its term at either end
abbrev pub coeff_of : Field → ℕ → Float
coeff_of F k = mul binary64 half64 (quad_of F k)

-- row i after the end e of an entry, whose other end has the byte v
unfoldable pub at_end : ℕ → ℕ → Float → ℕ → Row → Row
at_end i e a v r = cond (eqb e i) (add_term r a v) r

-- row i after entry k: (i,j) and (j,i) are terms of their own
unfoldable pub at_entry : Field → List ℕ → ℕ → ℕ → Row → Row
at_entry F s i k r =
    at_end i (column_end F k) (coeff_of F k) (get_or s (row_end F k) 0)
    (at_end i (row_end F k) (coeff_of F k) (get_or s (column_end F k) 0) r)

-- row i after the first k entries
unfoldable pub row_to : Field → List ℕ → ℕ → ℕ → Row
row_to F s i zero = start_row (linear_of F i)
row_to F s i (suc k) = at_entry F s i k (row_to F s i k)

-- after all entries, in order
unfoldable pub row_of : Field → List ℕ → ℕ → Row
row_of F s i = row_to F s i (entries F)
