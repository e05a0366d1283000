-- The record of a constraint: two variables, the lower first, and the set of the pairs of values that they may not have. Assumes nothing.
use Rattle.std.specs.Prelude.{◌≡◌, ◌⊎◌, cond, ℕ, zero, suc, ◌/◌, ◌%◌, ◌<◌, ltb, get_or}
use mathlib.Core.List.{List, [], ◌∷◌, ◌++◌, Memᴰ}
use Rattle.meaning.specs.Kinds.{Kind, at_least_one, exactly_one, no_more_than_one, greater_than, less_than, equal, Pair, pair, Forbids, Constraint}
use Rattle.meaning.specs.Literal.{Implication, bars}

-- the lower variable, the higher one, and the set of forbidden pairs of values as four bits, 00, 01, 10, 11 from the lowest (rule 6.1)
pub record Record : Type 0 where
  pub lower : ℕ
  pub higher : ℕ
  pub set : ℕ

-- The record of the lower variable i, the higher variable j and a set of forbidden pairs.
abbrev pub record_on : ℕ → ℕ → ℕ → Record
record_on i j pairs = record { lower = i; higher = j; set = pairs }

-- the pair, where its bit is not 0
abbrev pub chosen : ℕ → Pair → List Pair
chosen zero p = []
chosen (suc b) p = p ∷ []

-- the pairs of a set, the value of the lower variable first
unfoldable pub pairs_in : ℕ → List Pair
pairs_in pairs = chosen (pairs % 2) (pair 0 0) ++ chosen (pairs / 2 % 2) (pair 0 1) ++ chosen (pairs / 4 % 2) (pair 1 0) ++ chosen (pairs / 8 % 2) (pair 1 1)

-- A record's set is neither 0 nor above 15: it forbids a pair of values, and has four bits.
pub record Proper (r : Record) : Type 0 where
  pub some : 0 < r.set
  pub four : r.set < 16

-- Each record of the list forbids at least one pair of values, and its set has no fifth bit.
abbrev pub AllProper : List Record → Type 0
AllProper l = (r : Record) → Memᴰ r l → Proper r

-- the ends of each record are variables
abbrev pub Ends : ℕ → List Record → Type 0
Ends n l = (r : Record) → Memᴰ r l → (r.lower < n) × (r.higher < n)

-- x has no pair of values that the record forbids
abbrev pub MeetsRecord : List ℕ → Record → Type 0
MeetsRecord x r = Memᴰ (pair (get_or x r.lower 0) (get_or x r.higher 0)) (pairs_in r.set) → ⊥

-- the literals that records read, each from either end
unfoldable pub rules_of : List Record → List Implication
rules_of [] = []
rules_of (r ∷ rs) = bars r.lower r.higher (pairs_in r.set) ++ rules_of rs

-- ---- the record of a constraint of a kind

-- the set of a kind whose first end is the lower one
abbrev pub set_of : Kind → ℕ
set_of at_least_one = 1
set_of exactly_one = 9
set_of no_more_than_one = 8
set_of greater_than = 2
set_of less_than = 4
set_of equal = 6

-- the kind that says the same of the ends exchanged
abbrev pub turned : Kind → Kind
turned at_least_one = at_least_one
turned exactly_one = exactly_one
turned no_more_than_one = no_more_than_one
turned greater_than = less_than
turned less_than = greater_than
turned equal = equal

-- the record of a constraint: where the first end is the higher one the ends are exchanged, and the kind with them
abbrev pub record_of : Constraint → Record
record_of c =
    cond (ltb c.first c.second) (record_on c.first c.second (set_of c.kind)) (record_on c.second c.first (set_of (turned c.kind)))

-- ---- what constraints and records mean

-- c forbids that i has a while j has b
abbrev pub Excludes : Constraint → ℕ → ℕ → ℕ → ℕ → Type 0
Excludes c i a j b =
    ((c.first ≡ i) × (c.second ≡ j) × Forbids c.kind a b) ⊎ ((c.first ≡ j) × (c.second ≡ i) × Forbids c.kind b a)

-- a record of l forbids that i and j have the values p
pub record Bans (l : List Record) (i j : ℕ) (p : Pair) : Type 0 where
  pub by : Record
  pub among : Memᴰ by l
  pub is_lower : by.lower ≡ i
  pub is_higher : by.higher ≡ j
  pub forbids : Memᴰ p (pairs_in by.set)

-- all that l forbids, m forbids
abbrev pub Covered : List Record → List Record → Type 0
Covered l m = (i j : ℕ) (p : Pair) → Bans l i j p → Bans m i j p

-- equal meaning: the same pairs of values of the same variables are forbidden
pub record SameBans (l m : List Record) : Type 0 where
  pub to : Covered l m
  pub from : Covered m l
