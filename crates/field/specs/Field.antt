-- A field (section 1 of the rules): n linear weights c, and m entries (row, column, q), all f64. Assumes nothing.
use Rattle.std.specs.Prelude.{ℕ, ◌+◌, ◌<◌, ◌≤◌, ◌≡◌, ◌≢◌, ◌⊎◌, List, length, get_or, Float}
use Rattle.std.specs.Float.{nan}
use denote.Triple.Both.{Both}
use Rattle.field.specs.declared.FieldRef.{FieldRef}

-- The four lists of a field: the linear weights, and of each entry the row, the column and the pair weight.
pub record Field : Type 0 where
  pub linear : List Float
  pub rows : List ℕ
  pub cols : List ℕ
  pub quad : List Float

-- The field of the linear weights c, the rows, the columns and the pair weights q.
abbrev pub field_of : List Float → List ℕ → List ℕ → List Float → Field
field_of c rows cols q = record { linear = c; rows = rows; cols = cols; quad = q }

-- n, how many variables the field has: one for each linear weight.
abbrev pub variables : Field → ℕ
variables F = length F.linear

-- m, how many entries the field has: one for each pair weight.
abbrev pub entries : Field → ℕ
entries F = length F.quad

-- The linear weight c of variable i; a NaN where there is no such variable.
abbrev pub linear_of : Field → ℕ → Float
linear_of F i = get_or F.linear i nan

-- The row of entry k, which is the variable at its one end; 0 where there is no such entry.
abbrev pub row_end : Field → ℕ → ℕ
row_end F k = get_or F.rows k 0

-- The column of entry k, which is the variable at its other end; 0 where there is no such entry.
abbrev pub column_end : Field → ℕ → ℕ
column_end F k = get_or F.cols k 0

-- The pair weight q of entry k; a NaN where there is no such entry.
abbrev pub quad_of : Field → ℕ → Float
quad_of F k = get_or F.quad k nan

-- The field behind four lent slices as they stand now, for what is said inside a call.
abbrev pub lent : FieldRef → Field
lent F = field_of F.c.now F.rows.now F.cols.now F.q.now

-- The field behind four lent slices as a call is given it, for its contract.
abbrev pub given : {W : Type 0} → Both FieldRef W → Field
given F = lent F.entry

-- (r, c) stands before (r₂, c₂): by column, then row
abbrev pub Before : ℕ → ℕ → ℕ → ℕ → Type 0
Before r c r₂ c₂ = (c < c₂) ⊎ ((c ≡ c₂) × (r < r₂))

-- the one record of a field's shape: n is 0 to 4,096, m is 0 to 32,768, entries are strictly increasing by column, then row
pub record Shaped (F : Field) : Type 0 where
  pub few_variables : variables F ≤ 4096
  pub few_entries : entries F ≤ 32768
  pub rows_long : length F.rows ≡ entries F
  pub cols_long : length F.cols ≡ entries F
  pub row_below : (k : ℕ) → k < entries F → row_end F k < variables F
  pub column_below : (k : ℕ) → k < entries F → column_end F k < variables F
  pub rising : (k : ℕ) → k + 1 < entries F → Before (row_end F k) (column_end F k) (row_end F (k + 1)) (column_end F (k + 1))

-- no entry with row = column
abbrev pub Standard : Field → Type 0
Standard F = (k : ℕ) → k < entries F → row_end F k ≢ column_end F k

-- start values are n bytes: 0, 1, or 2 for free
pub record StartFor (n : ℕ) (s : List ℕ) : Type 0 where
  pub long : length s ≡ n
  pub small : (i : ℕ) → get_or s i 0 ≤ 2
