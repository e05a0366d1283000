-- In plain words, what the mended list and the report hold. Assumes nothing.
use Rattle.std.specs.Prelude.{ℕ, zero, suc, ◌<◌, ◌≡◌, ◌≢◌, false, cond, ◌&&◌, List, [], ◌∷◌, ◌++◌, eqb, length, get_or, Float}
use Rattle.std.specs.Float.Ieee.Scale.{finite}
use Rattle.field.specs.Field.{Field, variables, entries, row_end, column_end, quad_of}
use Rattle.mending.specs.Places.{added, mended}
use Rattle.mending.specs.Changes.{Change, dropped, moved, joined}

-- entry k has its row and its column below n
pub record Inside (F : Field) (k : ℕ) : Type 0 where
  pub row_below : row_end F k < variables F
  pub column_below : column_end F k < variables F

-- the place (r, c) is inside the field, and an entry names it
pub record Named (F : Field) (r c : ℕ) : Type 0 where
  pub row_below : r < variables F
  pub column_below : c < variables F
  pub by : ℕ
  pub entry : by < entries F
  pub row : row_end F by ≡ r
  pub column : column_end F by ≡ c

-- of the first k entries, the weights of those at row r and column c, in input order
unfoldable pub weights_to : Field → ℕ → ℕ → ℕ → List Float
weights_to F r c zero = []
weights_to F r c (suc k) = cond (eqb (row_end F k) r && eqb (column_end F k) c) (weights_to F r c k ++ quad_of F k ∷ []) (weights_to F r c k)

-- the weights at one place added in the order given, in f64, from the first weight on
unfoldable pub sum_of : Field → ℕ → ℕ → Float
sum_of F r c = added (weights_to F r c (entries F))

-- a place inside the field whose sum is not finite
pub record Overflow (F : Field) : Type 0 where
  pub row : ℕ
  pub column : ℕ
  pub row_below : row < variables F
  pub column_below : column < variables F
  pub sum : finite (sum_of F row column) ≡ false

-- entry k and the mended entry o are at one place
pub record Goes (F : Field) (k o : ℕ) : Type 0 where
  pub entry : o < entries (mended F)
  pub row : row_end (mended F) o ≡ row_end F k
  pub column : column_end (mended F) o ≡ column_end F k

-- entries j and k are at one place
pub record Same (F : Field) (j k : ℕ) : Type 0 where
  pub row : row_end F j ≡ row_end F k
  pub column : column_end F j ≡ column_end F k

-- what dropped, joined and moved mean: joined is an entry whose place an earlier entry has, moved one that is neither dropped nor joined and
-- whose output position is not its input position
pub data Happens (F : Field) : Change → Type 0 where
  drops : {k : ℕ} → k < entries F → (Inside F k → ⊥) → Happens F (dropped k)
  joins : {k o : ℕ} (j : ℕ) → k < entries F → Inside F k → j < k → Same F j k → Goes F k o → Happens F (joined k o)
  moves : {k o : ℕ} → k < entries F → Inside F k → ((j : ℕ) → j < k → Same F j k → ⊥) → Goes F k o → o ≢ k → Happens F (moved k o)

-- the input position of a change
abbrev pub input_of : Change → ℕ
input_of (dropped k) = k
input_of (moved k o) = k
input_of (joined k o) = k

-- the changes rise by input position, so each entry has one at most
abbrev pub InputRises : List Change → Type 0
InputRises l = (t : ℕ) → suc t < length l → input_of (get_or l t (dropped 0)) < input_of (get_or l (suc t) (dropped 0))
