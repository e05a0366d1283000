-- A field in whole numbers, its objective, and the completions of a list of start values.
-- All is counted in half units: `linear` is 2c in units, and `twice-f` is 2f in units. Assumes nothing.
use Rattle.std.specs.Prelude.{◌≢◌, List, ℕ, ◌<◌, get_or}
use Rattle.whole.specs.Whole.{Whole, ◌⊕◌, ◌⊙◌, ◌⊑◌, sum}
use Rattle.meaning.specs.Steps.{Extends}

-- n linear weights, and m entries, each with its row, its column and its weight (rule 1.1)
pub record Field : Type 0 where
  pub n : ℕ
  pub m : ℕ
  pub linear : ℕ → Whole
  pub row : ℕ → ℕ
  pub column : ℕ → ℕ
  pub weight : ℕ → Whole

-- no entry has its row equal to its column (rule 1.6)
abbrev pub Standard : Field → Type 0
Standard F = (k : ℕ) → k < F.m → F.row k ≢ F.column k

-- each row and column is below n
abbrev pub Within : Field → Type 0
Within F = (k : ℕ) → k < F.m → (F.row k < F.n) × (F.column k < F.n)

-- the terms of f (rule 1.4), in half units: 2c x of a variable, and q x x of an entry
abbrev pub variable_term : Field → List ℕ → ℕ → Whole
variable_term F x i = F.linear i ⊙ get_or x i 0

-- What entry k adds to 2f at the values x: q where both its ends are 1, and nothing elsewhere.
abbrev pub entry_term : Field → List ℕ → ℕ → Whole
entry_term F x k = F.weight k ⊙ get_or x (F.row k) 0 ⊙ get_or x (F.column k) 0

-- 2f at the values x, in units: the sum over all variables and all entries of what each adds.
abbrev pub twice_f : Field → List ℕ → Whole
twice_f F x = sum F.n (variable_term F x) ⊕ sum F.m (entry_term F x)

-- x has 0 or 1 everywhere, and every value of s that is not free (rule 1.8)
pub record Completion (s x : List ℕ) : Type 0 where
  pub extends : Extends s x
  pub full : (i : ℕ) → get_or x i 0 < 2

-- no completion has a smaller f (rule 1.8)
pub record Best (F : Field) (s x : List ℕ) : Type 0 where
  pub completion : Completion s x
  pub least : (y : List ℕ) → Completion s y → twice_f F x ⊑ twice_f F y
