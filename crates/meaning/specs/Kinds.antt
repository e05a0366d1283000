-- The six kinds of constraint, and the pairs of values that each forbids. Assumes nothing.
use mathlib.Core.List.{List, [], ◌∷◌, Memᴰ}
use Rattle.std.specs.Prelude.{◌≢◌, ℕ, get_or}

-- The six kinds of constraint on two variables, named for what they ask of the two values.
pub data Kind : Type 0 where
  at_least_one : Kind
  exactly_one : Kind
  no_more_than_one : Kind
  greater_than : Kind
  less_than : Kind
  equal : Kind

-- Two values, that of a constraint's first end and that of its second.
pub record Pair : Type 0 where
  pub first : ℕ
  pub second : ℕ

-- The pair of the values a and b, the first end's value first.
abbrev pub pair : ℕ → ℕ → Pair
pair a b = record { first = a; second = b }

-- the pairs of values that each kind forbids, the first variable's value first (rule 6.2)
abbrev pub forbidden : Kind → List Pair
forbidden at_least_one = pair 0 0 ∷ []
forbidden exactly_one = pair 0 0 ∷ pair 1 1 ∷ []
forbidden no_more_than_one = pair 1 1 ∷ []
forbidden greater_than = pair 0 1 ∷ []
forbidden less_than = pair 1 0 ∷ []
forbidden equal = pair 0 1 ∷ pair 1 0 ∷ []

-- A constraint of kind k does not allow that its first end has a while its second has b.
abbrev pub Forbids : Kind → ℕ → ℕ → Type 0
Forbids k a b = Memᴰ (pair a b) (forbidden k)

-- what the rules find: two ends, and a kind
pub record Constraint : Type 0 where
  pub first : ℕ
  pub second : ℕ
  pub kind : Kind

-- The constraint of kind k with the first end a and the second end b.
abbrev pub joining : Kind → ℕ → ℕ → Constraint
joining k a b = record { first = a; second = b; kind = k }

-- x has no pair of values that c forbids
abbrev pub Meets : List ℕ → Constraint → Type 0
Meets x c = Forbids c.kind (get_or x c.first 0) (get_or x c.second 0) → ⊥

-- the two ends of each constraint differ
abbrev pub Apart : List Constraint → Type 0
Apart cs = (c : Constraint) → Memᴰ c cs → c.first ≢ c.second
