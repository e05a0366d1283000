-- The variables of no effect: no entry is at them, and their c is 0 (rule 5.9). Assumes nothing.
use Rattle.std.specs.Prelude.{ℕ, ◌<◌, ◌≡◌, ◌≢◌, Bool, cond, not, ◌&&◌, List, eqb, length, get_or, drop, Float}
use Rattle.std.specs.Float.{nan}
use Rattle.std.specs.Float.Ieee.{eq}
use Rattle.weights.specs.Worth.{zero64}
use Rattle.scratch.specs.All.{all_below}
use Rattle.field.specs.Field.{Field, variables, entries, linear_of, row_end, column_end}
use Rattle.no_effect.specs.Putting.{chosen, Putting, put_all}

-- neither end of entry k is i
abbrev pub apart_at : List ℕ → List ℕ → ℕ → ℕ → Bool
apart_at rows cols i k = not (eqb (get_or rows k 0) i) && not (eqb (get_or cols k 0) i)

-- no entry is at i: one on the diagonal is an entry, and so is one of weight 0
unfoldable pub untouched : List ℕ → List ℕ → ℕ → Bool
untouched rows cols i = all_below (apart_at rows cols i) (length rows)

-- no entry, and c is 0; the sign of a zero does not matter
unfoldable pub has_no_effect : Field → ℕ → Bool
has_no_effect F i = untouched F.rows F.cols i && eq (linear_of F i) zero64

-- in words: neither end of any entry is i
abbrev pub NoEntry : Field → ℕ → Type 0
NoEntry F i = (k : ℕ) → k < entries F → (row_end F k ≢ i) × (column_end F k ≢ i)

-- All variables of no effect, rising.
unfoldable pub no_effect : Field → List ℕ
no_effect F = chosen (has_no_effect F) (variables F)

-- ---- what the code goes by

-- what marking leaves of u₀: a word for each variable, 0 where it has no entry and 1 where it has one, and the rest as it was
pub record Marked (n : ℕ) (rows cols u₀ u : List ℕ) : Type 0 where
  pub long : length u ≡ length u₀
  pub at : (i : ℕ) → i < n → get_or u i 0 ≡ cond (untouched rows cols i) 0 1
  pub rest : drop n u ≡ drop n u₀

-- Whether variable i has no mark, which says that no entry touches it, and c = 0.
abbrev pub idle : List Float → List ℕ → ℕ → Bool
idle c u i = eqb (get_or u i 0) 0 && eq (get_or c i nan) zero64

-- The list after all variables of no effect have gone to its front, and how many they are.
unfoldable pub found : Field → List ℕ → Putting
found F l = put_all (has_no_effect F) (variables F) l
