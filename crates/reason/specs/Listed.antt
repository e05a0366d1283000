-- The fixed neighbours that a bound counts, as a list and as values. Assumes nothing.
use Rattle.std.specs.Prelude.{ℕ, zero, suc, ◌<◌, ◌≡◌, ◌≢◌, Bool, false, cond, not, ◌&&◌, ◌||◌, List, [], ◌∷◌, ◌++◌, eqb, length, get_or}
use Rattle.meaning.specs.Free.{is_free}
use Rattle.field.specs.Field.{Field, variables, entries, row_end, column_end}

-- entry k joins i to j; stored zeros join too
abbrev pub joins_at : Field → ℕ → ℕ → ℕ → Bool
joins_at F i j k = (eqb (row_end F k) i && eqb (column_end F k) j) || (eqb (column_end F k) i && eqb (row_end F k) j)

-- Whether one of the first k entries joins i to j.
unfoldable pub joins_to : Field → ℕ → ℕ → ℕ → Bool
joins_to F i j zero = false
joins_to F i j (suc k) = joins_to F i j k || joins_at F i j k

-- j is a neighbour of i that has a value in r
unfoldable pub is_listed : Field → List ℕ → ℕ → ℕ → Bool
is_listed F r i j = not (is_free r j) && joins_to F i j (entries F)

-- The neighbours of i below n that have a value in r, rising.
unfoldable pub listed_to : Field → List ℕ → ℕ → ℕ → List ℕ
listed_to F r i zero = []
listed_to F r i (suc n) = listed_to F r i n ++ cond (is_listed F r i n) (n ∷ []) []

-- The neighbours of i that have a value in r, over all variables of the field, rising.
unfoldable pub listed_of : Field → List ℕ → ℕ → List ℕ
listed_of F r i = listed_to F r i (variables F)

-- in x the m variables listed have their values, and all others below n are free (rule 11.6)
pub record Only (n m : ℕ) (listed : ℕ → ℕ) (values x : List ℕ) : Type 0 where
  pub long : length x ≡ n
  pub listed_fixed : (t : ℕ) → t < m → get_or x (listed t) 0 ≡ get_or values (listed t) 0
  pub others_free : (j : ℕ) → j < n → ((t : ℕ) → t < m → listed t ≢ j) → get_or x j 0 ≡ 2
