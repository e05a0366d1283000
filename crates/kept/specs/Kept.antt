-- The record kept beside the start values: worked out afresh (rule 12.2), and after the value of a variable has changed (rule 12.5). Assumes nothing.
use Rattle.std.specs.Prelude.{ℕ, zero, suc, ◌+◌, ◌<◌, ◌≡◌, ◌≢◌, Bool, cond, ◌&&◌, ◌||◌, List, ◌++◌, eqb, length, get_or, set, Float}
use Rattle.std.specs.Float.{binary64}
use Rattle.std.specs.Float.Ieee.{add}
use Rattle.weights.specs.Worth.{zero64}
use Rattle.meaning.specs.Free.{is_free}
use Rattle.field.specs.Field.{Field, variables, entries, row_end, column_end}
use Rattle.rows.specs.declared.Row.{Row}
use Rattle.rows.specs.Row.{start_row, add_term, remove_term, is_strict}
use Rattle.rows.specs.Model.{coeff_of, row_of}
use Rattle.rows.specs.Stored.{row_on, put_row, up_to}
use Rattle.places.specs.Places.{other_end}

-- the start values, the two bounds of each variable, lower ones first, and the number of strict rows
pub record Kept : Type 0 where
  pub values : List ℕ
  pub bounds : List Float
  pub strict : ℕ

-- The record made of the values, the bounds and the number of strict rows.
abbrev pub kept : List ℕ → List Float → ℕ → Kept
kept s b n = record { values = s; bounds = b; strict = n }

-- ---- worked out afresh

-- what is stored of a bound is the bound + 0.0: the same number, and never -0.0
abbrev pub plain : Row → Row
plain r = record { lower = add binary64 r.lower zero64; upper = add binary64 r.upper zero64 }

-- what is stored of a row whose variable has the byte v: its two bounds where it is free, and 0 for others
unfoldable pub stored_row : ℕ → Row → Row
stored_row v r = cond (eqb v 2) (plain r) (start_row zero64)

-- The row of t as the record holds it, worked out from the values s alone.
abbrev pub afresh : Field → List ℕ → ℕ → Row
afresh F s t = stored_row (get_or s t 0) (row_of F s t)

-- n rows as the record holds them: their lower bounds, then their upper ones
unfoldable pub bounds_of : (ℕ → Row) → ℕ → List Float
bounds_of g n = up_to (λ t. (g t).lower) n ++ up_to (λ t. (g t).upper) n

-- how many of the variables below i are free and have a strict row
unfoldable pub strict_to : List ℕ → List Float → ℕ → ℕ
strict_to s b zero = 0
strict_to s b (suc i) = strict_to s b i + cond (is_free s i && is_strict (row_on b (length s) i)) 1 0

-- the number of strict rows, counted in the bounds as they stand
abbrev pub counted : List ℕ → List Float → Kept
counted s b = kept s b (strict_to s b (length s))

-- the record of the values s
unfoldable pub made : Field → List ℕ → Kept
made F s = counted s (bounds_of (afresh F s) (variables F))

-- ---- the value of i changes from old to new

-- Whether variable i is an end of entry k, as a test.
abbrev pub meets : List ℕ → List ℕ → ℕ → ℕ → Bool
meets rows cols i k = eqb (get_or rows k 0) i || eqb (get_or cols k 0) i

-- a row with its term of coefficient a at old taken out, and put back at new
abbrev pub turned : Row → Float → ℕ → ℕ → Row
turned r a old new = plain (add_term (remove_term r a old) a new)

-- entry k of i, where its other end is free in s: the row of the other end is turned
unfoldable pub turn_at : Field → List ℕ → ℕ → ℕ → ℕ → List Float → ℕ → List Float
turn_at F s i old new b k =
    let t = other_end F.rows F.cols i k in
    cond (meets F.rows F.cols i k && is_free s t) (put_row b (variables F) t (turned (row_on b (variables F) t) (coeff_of F k) old new)) b

-- The bounds after the first k entries, in order, have had the term of i turned from old to new.
unfoldable pub turn_to : Field → List ℕ → ℕ → ℕ → ℕ → List Float → ℕ → List Float
turn_to F s i old new b zero = b
turn_to F s i old new b (suc k) = turn_at F s i old new (turn_to F s i old new b k) k

-- the rows of its free neighbours are turned, its own is worked out afresh, and the strict rows are counted anew
unfoldable pub changed : Field → ℕ → ℕ → Kept → Kept
changed F i v K =
    let s = set K.values i v in
    let b = turn_to F s i (get_or K.values i 0) v K.bounds (entries F) in
    counted s (put_row b (variables F) i (afresh F s i))

-- no entry joins i to t
abbrev pub Apart : Field → ℕ → ℕ → Type 0
Apart F i t = (k : ℕ) → k < entries F → (row_end F k ≡ i → column_end F k ≢ t) × (column_end F k ≡ i → row_end F k ≢ t)

-- The record after the free variable i is pinned: its value is v, and the rows follow (rule 12.4).
abbrev pub pinned : Field → ℕ → ℕ → Kept → Kept
pinned F i v K = changed F i v K

-- The record after the variable i is released: its value is 2 again, and the rows follow.
abbrev pub released : Field → ℕ → Kept → Kept
released F i K = changed F i 2 K
