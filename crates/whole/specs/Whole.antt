-- Whole numbers as ledgers: what is gained, and what is spent. A ledger stands for the number plus - less.
-- Two ledgers may stand for one number, as 3 less 1 and 2 less 0: `◌≈◌` says that they do.
-- Every operation but `sum` unfolds everywhere, so that `omega`, which reads naturals, does the sums. Assumes nothing.
use Rattle.std.specs.Prelude.{◌≡◌, Bool, true, false, ℕ, zero, suc, ◌+◌, ◌*◌, ◌-◌, ◌≤◌, ◌<◌}

-- A whole number as a ledger of what is gained and what is spent: it stands for plus - less, and may be below 0.
pub record Whole : Type 0 where
  pub plus : ℕ
  pub less : ℕ

-- The ledger of 0 in which nothing is gained and nothing is spent.
abbrev pub nothing : Whole
nothing = record { plus = 0; less = 0 }

-- The sum of two whole numbers: what both gain, and what both spend.
infixl 65 ◌⊕◌
abbrev pub ◌⊕◌ : Whole → Whole → Whole
a ⊕ b = record { plus = a.plus + b.plus; less = a.less + b.less }

-- The difference a - b: what b gains is spent, and what it spends is gained.
infixl 65 ◌⊖◌
abbrev pub ◌⊖◌ : Whole → Whole → Whole
a ⊖ b = record { plus = a.plus + b.less; less = a.less + b.plus }

-- a taken n times
infixl 70 ◌⊙◌
abbrev pub ◌⊙◌ : Whole → ℕ → Whole
a ⊙ n = record { plus = a.plus * n; less = a.less * n }

-- a where the test holds, and nothing elsewhere
abbrev pub only : Bool → Whole → Whole
only true a = a
only false a = nothing

-- g 0, g 1 and so on, below n
unfoldable pub sum : ℕ → (ℕ → Whole) → Whole
sum zero g = nothing
sum (suc k) g = sum k g ⊕ g k

-- The smaller of a and 0, as a ledger on which nothing is gained.
abbrev pub min0 : Whole → Whole
min0 a = record { plus = 0; less = a.less - a.plus }

-- The larger of a and 0, as a ledger on which nothing is spent.
abbrev pub max0 : Whole → Whole
max0 a = record { plus = a.plus - a.less; less = 0 }

-- a without its sign
abbrev pub size : Whole → Whole
size a = record { plus = a.plus - a.less + (a.less - a.plus); less = 0 }

infix 50 ◌⊑◌ ◌≈◌
-- at most
abbrev pub ◌⊑◌ : Whole → Whole → Type 0
a ⊑ b = a.plus + b.less ≤ b.plus + a.less

-- the same number
abbrev pub ◌≈◌ : Whole → Whole → Type 0
a ≈ b = a.plus + b.less ≡ b.plus + a.less

-- The number is 0: as much is gained as is spent, on whichever ledger.
abbrev pub Zero : Whole → Type 0
Zero a = a.plus ≡ a.less

-- The number is above 0: on its ledger more is gained than is spent.
abbrev pub Above0 : Whole → Type 0
Above0 a = a.less < a.plus

-- The number is below 0: on its ledger more is spent than is gained.
abbrev pub Below0 : Whole → Type 0
Below0 a = a.plus < a.less

-- both sides of the ledger are at most b, and so is the number, either way
abbrev pub Under : ℕ → Whole → Type 0
Under b a = (a.plus ≤ b) × (a.less ≤ b)
