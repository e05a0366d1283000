-- How literals reach each other by implications, and the assignments that meet every record. Assumes nothing.
use Rattle.std.specs.Prelude.{◌≡◌, ◌≢◌, ℕ, zero, suc, ◌<◌, length, get_or}
use mathlib.Core.List.{List, Memᴰ}
use Rattle.meaning.specs.Literal.{Implication}
use Rattle.meaning.specs.Records.{Record, MeetsRecord}

-- that variable i has the value v leads, by any number of implications, none included, to the value w of j (rule 6.9)
pub data Reach (E : List Implication) (i v : ℕ) : ℕ → ℕ → Type 0 where
  here : Reach E i v i v
  onward : {e : Implication} → Memᴰ e E → Reach E i v e.from e.when → Reach E i v e.to e.gives

-- each literal of variable i reaches the other
pub record Contradictory (E : List Implication) (i : ℕ) : Type 0 where
  pub up : Reach E i 0 i 1
  pub down : Reach E i 1 i 0

-- x gives each of n variables 0 or 1, and meets every record
pub record MeetsAll (l : List Record) (n : ℕ) (x : List ℕ) : Type 0 where
  pub as_long : length x ≡ n
  pub small : (i : ℕ) → get_or x i 0 < 2
  pub meets : (r : Record) → Memᴰ r l → MeetsRecord x r

-- y has the first i choices of x
abbrev pub SameBelow : ℕ → List ℕ → List ℕ → Type 0
SameBelow i x y = (j : ℕ) → j < i → get_or y j 0 ≡ get_or x j 0

-- each variable, in rising order, has 0 wherever some assignment that meets every record has it with the earlier choices (rule 6.10)
pub record Least (l : List Record) (n : ℕ) (x : List ℕ) : Type 0 where
  pub meets_all : MeetsAll l n x
  pub zero : (i : ℕ) → i < n → (y : List ℕ) → MeetsAll l n y → SameBelow i x y → get_or y i 0 ≡ 0 → get_or x i 0 ≡ 0

-- of n variables only i is given, as v
pub record Alone (n i v : ℕ) (s : List ℕ) : Type 0 where
  pub as_long : length s ≡ n
  pub below : i < n
  pub small : v < 2
  pub value : get_or s i 0 ≡ v
  pub free : (j : ℕ) → j < n → j ≢ i → get_or s j 0 ≡ 2

-- k of the numbers below m have P
pub data CountIs (P : ℕ → Type 0) : ℕ → ℕ → Type 0 where
  none : CountIs P 0 0
  one_more : {m k : ℕ} → CountIs P m k → P m → CountIs P (suc m) (suc k)
  passed_over : {m k : ℕ} → CountIs P m k → (P m → ⊥) → CountIs P (suc m) k
