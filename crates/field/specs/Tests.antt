-- The tests 1, 2, 14 to 17, 4 to 6 and 8 (rule 3.1), and the groups that calls share (rule 3.5). Assumes nothing.
use Rattle.std.specs.Prelude.{ℕ, zero, suc, ◌+◌, ◌*◌, ◌-◌, ◌<◌, ◌≤◌, Bool, not, ◌&&◌, ◌||◌, cond, List, [], ◌∷◌, ◌++◌, T, leb, ltb, eqb, length, get_or, Float}
use Rattle.std.specs.Float.{nan}
use Rattle.std.specs.Float.Ieee.Scale.{finite}
use Rattle.scratch.specs.All.{all_below}
use Rattle.field.specs.declared.Refusal.{Refusal}
use Rattle.field.specs.declared.Refusal.TheVariants.{Variables, Lists, Row, Column, Repeat, Order, Diagonal, Weights, Start, Scratch}
use Rattle.field.specs.Field.{Field, variables, entries, linear_of, quad_of, Shaped, Standard, StartFor}
use Rattle.field.specs.Table.{Test, test}

-- ---- tests at every position

-- Whether each of these rows, or of these columns, is a variable, which is a number below n.
unfoldable pub ends_below : ℕ → List ℕ → Bool
ends_below n ends = all_below (λ k. ltb (get_or ends k 0) n) (length ends)

-- Whether the entry at (r, c) stands before one at (r₂, c₂): by column, then by row.
abbrev pub is_before : ℕ → ℕ → ℕ → ℕ → Bool
is_before r c r₂ c₂ = ltb c c₂ || (eqb c c₂ && ltb r r₂)

-- Whether entry k stands before entry k + 1 by column, then by row.
abbrev pub rises_at : List ℕ → List ℕ → ℕ → Bool
rises_at rows cols k = is_before (get_or rows k 0) (get_or cols k 0) (get_or rows (k + 1) 0) (get_or cols (k + 1) 0)

-- Whether every entry stands before the next, so that no two have the same row and column.
unfoldable pub all_rise : List ℕ → List ℕ → Bool
all_rise rows cols = all_below (rises_at rows cols) (length rows - 1)

-- Whether every weight of the list is finite, and so neither a NaN nor an infinity.
unfoldable pub all_finite : List Float → Bool
all_finite w = all_below (λ k. finite (get_or w k nan)) (length w)

-- Whether every byte of the start values is 0, 1, or 2 for free, none above it.
unfoldable pub bytes_small : List ℕ → Bool
bytes_small s = all_below (λ i. leb (get_or s i 0) 2) (length s)

-- ---- the table's tests

-- 1: n above 4,096
unfoldable pub few_variables : ℕ → Bool
few_variables n = leb n 4096

-- 2: entry lists of unequal length, or m above 32,768
unfoldable pub lists_match : List ℕ → List ℕ → List Float → Bool
lists_match rows cols q = eqb (length rows) (length q) && (eqb (length cols) (length q) && leb (length q) 32768)

-- 14 to 17: a row or column not below n, or order broken
unfoldable pub in_order : ℕ → List ℕ → List ℕ → Bool
in_order n rows cols = ends_below n rows && (ends_below n cols && all_rise rows cols)

-- entry k has nothing wrong: its row and its column are below n, and it stands after the entry before
unfoldable pub is_fine : ℕ → List ℕ → List ℕ → ℕ → Bool
is_fine n rows cols k =
    ltb (get_or rows k 0) n && (ltb (get_or cols k 0) n && (eqb k 0 || is_before (get_or rows (k - 1) 0) (get_or cols (k - 1) 0) (get_or rows k 0) (get_or cols k 0)))

-- of `left` numbers from k on the first that fails; the one after them where none does
unfoldable pub first_from : (ℕ → Bool) → ℕ → ℕ → ℕ
first_from p k zero = k
first_from p k (suc left) = cond (p k) (first_from p (suc k) left) k

-- the row is looked at before the column, and both before the order: the same place as the entry before is 16, one further up 17
unfoldable pub wrong_at : ℕ → List ℕ → List ℕ → ℕ → Refusal
wrong_at n rows cols k =
    cond (ltb (get_or rows k 0) n)
    (cond (ltb (get_or cols k 0) n)
    (cond (eqb (get_or rows k 0) (get_or rows (k - 1) 0) && eqb (get_or cols k 0) (get_or cols (k - 1) 0)) (Repeat k) (Order k))
    (Column k))
    (Row k)

-- what is wrong with the first entry at fault
unfoldable pub fault_of : ℕ → List ℕ → List ℕ → Refusal
fault_of n rows cols = wrong_at n rows cols (first_from (is_fine n rows cols) 0 (length rows))

-- 4: diagonal entry where standard form is needed
unfoldable pub off_diagonal : List ℕ → List ℕ → Bool
off_diagonal rows cols = all_below (λ k. not (eqb (get_or rows k 0) (get_or cols k 0))) (length rows)

-- 5: a weight not finite
unfoldable pub weights_finite : List Float → List Float → Bool
weights_finite c q = all_finite c && all_finite q

-- 6: start values not n long, or a byte above 2
unfoldable pub start_fits : ℕ → List ℕ → Bool
start_fits n s = eqb (length s) n && bytes_small s

-- 8: f64 scratch shorter than 8n+4m+16, for a field of n variables and m entries.
unfoldable pub floats_fit : ℕ → ℕ → ℕ → Bool
floats_fit n m floats = leb (8 * n + 4 * m + 16) floats

-- 8: u32 scratch shorter than 16n+8m+16, for a field of n variables and m entries.
unfoldable pub words_fit : ℕ → ℕ → ℕ → Bool
words_fit n m words = leb (16 * n + 8 * m + 16) words

-- ---- groups, in the table's order

-- The tests of a field's shape: 1, 2, and 14 to 17, which are one test.
unfoldable pub shape_tests : Field → List Test
shape_tests F =
    test Variables (few_variables (variables F))
    ∷ test Lists (lists_match F.rows F.cols F.quad)
    ∷ test (fault_of (variables F) F.rows F.cols) (in_order (variables F) F.rows F.cols)
    ∷ []

-- these and 5: for the calls that allow a diagonal
unfoldable pub loose_tests : Field → List Test
loose_tests F = shape_tests F ++ test Weights (weights_finite F.linear F.quad) ∷ []

-- these, 6 and 8: for those of them that work from start values in scratch
unfoldable pub open_tests : Field → List ℕ → ℕ → ℕ → List Test
open_tests F s floats words =
    loose_tests F
    ++ test Start (start_fits (variables F) s)
    ∷ test Scratch (floats_fit (variables F) (entries F) floats)
    ∷ test Scratch (words_fit (variables F) (entries F) words)
    ∷ []

-- The tests of a field in standard form with its start values: 1, 2, 14 to 17, and 4 to 6.
unfoldable pub standard_tests : Field → List ℕ → List Test
standard_tests F s =
    shape_tests F
    ++ test Diagonal (off_diagonal F.rows F.cols)
    ∷ test Weights (weights_finite F.linear F.quad)
    ∷ test Start (start_fits (variables F) s)
    ∷ []

-- The tests of a field in standard form with start values and scratch: 1, 2, 14 to 17, 4 to 6, and 8.
unfoldable pub ready_tests : Field → List ℕ → ℕ → ℕ → List Test
ready_tests F s floats words =
    standard_tests F s
    ++ test Scratch (floats_fit (variables F) (entries F) floats)
    ∷ test Scratch (words_fit (variables F) (entries F) words)
    ∷ []

-- ---- what passing leaves

-- Every linear weight and every pair weight of the field is finite: what passing test 5 leaves.
pub record Finite (F : Field) : Type 0 where
  pub linear : (i : ℕ) → i < variables F → T (finite (linear_of F i))
  pub quad : (k : ℕ) → k < entries F → T (finite (quad_of F k))

-- What passing `loose_tests` leaves: the field has its shape and finite weights; a diagonal is allowed.
pub record Loose (F : Field) : Type 0 where
  pub shaped : Shaped F
  pub finite_weights : Finite F

-- What passing `open_tests` leaves: shape, finite weights, start values and scratch; a diagonal is allowed.
pub record Admitted (F : Field) (s : List ℕ) (floats words : ℕ) : Type 0 where
  pub shaped : Shaped F
  pub finite_weights : Finite F
  pub start : StartFor (variables F) s
  pub floats_room : 8 * variables F + 4 * entries F + 16 ≤ floats
  pub words_room : 16 * variables F + 8 * entries F + 16 ≤ words

-- What passing `standard_tests` leaves: a field in standard form with finite weights, and its start values.
pub record Sound (F : Field) (s : List ℕ) : Type 0 where
  pub shaped : Shaped F
  pub standard : Standard F
  pub finite_weights : Finite F
  pub start : StartFor (variables F) s

-- What passing `ready_tests` leaves: a sound field with start values, and scratch of the lengths asked for.
pub record Ready (F : Field) (s : List ℕ) (floats words : ℕ) : Type 0 where
  pub sound : Sound F s
  pub floats_room : 8 * variables F + 4 * entries F + 16 ≤ floats
  pub words_room : 16 * variables F + 8 * entries F + 16 ≤ words
