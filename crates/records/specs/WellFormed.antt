-- Which inputs are well-formed, and what they tell (rule 13.3): a list of items, spelled one after another, and ZZ. Assumes nothing.
use Rattle.std.specs.Prelude.{ℕ, ◌^◌, ◌<◌, ◌≡◌, List, [], ◌∷◌, ◌++◌, length, get_or}
use Rattle.std.specs.Float.{binary64}
use Rattle.std.specs.Float.Ieee.{of_bits}
use Rattle.endian.specs.Bytes.{bytes_of}
use Rattle.records.specs.Told.{Told, nothing, with_weight, with_entry, with_given}

-- a record before the end; a weight is its 64 bits
pub data Item : Type 0 where
  weight : (bits : ℕ) → Item
  entry : (row col bits : ℕ) → Item
  given : (variable value : ℕ) → Item

-- the letters V C, Q E, F X and Z Z, and little-endian numbers
unfoldable pub spell : Item → List ℕ
spell (weight bits) = 86 ∷ 67 ∷ bytes_of 8 bits
spell (entry row col bits) = 81 ∷ 69 ∷ (bytes_of 2 row ++ (bytes_of 2 col ++ bytes_of 8 bits))
spell (given variable value) = 70 ∷ 88 ∷ (bytes_of 2 variable ++ (value ∷ []))

-- The bytes of a list of items, one after another, with ZZ behind them.
unfoldable pub spelled : List Item → List ℕ
spelled [] = 90 ∷ 90 ∷ []
spelled (i ∷ is) = spell i ++ spelled is

-- what an item adds to what was told before it
unfoldable pub tells : Item → Told → Told
tells (weight bits) t = with_weight (of_bits binary64 bits) t
tells (entry row col bits) t = with_entry row col (of_bits binary64 bits) t
tells (given variable value) t = with_given variable value t

-- what may follow t: numbers that fit their bytes, up to 256 variables and 1,024 entries, and a value 0 or 1 for a declared variable that has none yet
unfoldable pub Fine : Told → Item → Type 0
Fine t (weight bits) = (bits < 2 ^ 64) × (length t.linear < 256)
Fine t (entry row col bits) = (row < 2 ^ 16) × (col < 2 ^ 16) × (bits < 2 ^ 64) × (length t.quad < 1024)
Fine t (given variable value) = (variable < 2 ^ 16) × (variable < length t.linear) × (get_or t.start variable 0 ≡ 2) × (value < 2)

-- from t, the items, each fine after those before it, tell u
pub data Tells : Told → List Item → Told → Type 0 where
  none : {t : Told} → Tells t [] t
  next : {t u : Told} {i : Item} {is : List Item} → Fine t i → Tells (tells i t) is u → Tells t (i ∷ is) u

-- s spells items that lead from t to u, and rest stands behind their ZZ
pub record Spells (s : List ℕ) (t u : Told) (rest : List ℕ) : Type 0 where
  pub items : List Item
  pub bytes : s ≡ spelled items ++ rest
  pub told : Tells t items u

-- the bytes of 256 weights, 1,024 entries, 256 given values and the end
abbrev pub longest_input : ℕ
longest_input = 18178

-- The input s is well-formed and tells u: it spells fine items, from nothing told on, and ends with ZZ.
abbrev pub WellFormed : List ℕ → Told → Type 0
WellFormed s u = Spells s nothing u []
