-- The error-free sum (rule 9.3): parts that add up to what was added, for every f64. Assumes nothing.
use Rattle.std.specs.Prelude.{ℕ, ◌+◌, ◌≤◌, ◌≡◌, Bool, true, false, cond, List, [], ◌∷◌, ◌++◌, take, drop, eqb, Option, Some, None, Float}
use Rattle.std.specs.Float.{binary64}
use Rattle.std.specs.Float.Ieee.{add, sub, lt, ne}
use Rattle.std.specs.Float.Ieee.Scale.{finite}
use Rattle.weights.specs.Worth.{magnitude, zero64}
use Rattle.expansion.specs.declared.Split.{Split}

-- ---- the model

-- its parts, or none once a sum has overflowed, which makes it invalid (rule 9.4)
pub data Expansion : Type 0 where
  parts : List Float → Expansion
  invalid : Expansion

-- x + y for an x that is not below y in magnitude: the rounded sum, and what rounding left over
abbrev pub two_sum : Float → Float → Split
two_sum x y = record { high = add binary64 x y; low = sub binary64 y (sub binary64 (add binary64 x y) x) }

-- x + y as a rounded sum and what rounding left over, with the larger in magnitude taken first.
unfoldable pub split_of : Float → Float → Split
split_of x y = cond (lt (magnitude x) (magnitude y)) (two_sum y x) (two_sum x y)

-- The list with x in front, unless x is 0: a part that is 0 is not kept.
unfoldable pub kept : Float → List Float → List Float
kept x l = cond (ne x zero64) (x ∷ l) l

-- The expansion with x as its first part, unless x is 0; an invalid one stays invalid.
unfoldable pub in_front : Float → Expansion → Expansion
in_front x (parts l) = parts (kept x l)
in_front x invalid = invalid

-- x is carried through the parts: each sum that overflows makes the whole invalid, what is left over of it stays as a part, and the last sum is the last part
unfoldable pub carried : Float → List Float → Expansion
carried x [] = parts (kept x [])
carried x (y ∷ ys) = cond (finite (split_of x y).high) (in_front (split_of x y).low (carried (split_of x y).high ys)) invalid

-- One number added: x is carried through the parts, and where it is not finite the sum is invalid.
unfoldable pub plus : Float → Expansion → Expansion
plus x (parts l) = cond (finite x) (carried x l) invalid
plus x invalid = invalid

-- what was added comes to 0
unfoldable pub comes_to_zero : Expansion → Bool
comes_to_zero (parts []) = true
comes_to_zero (parts (x ∷ l)) = false
comes_to_zero invalid = false

-- ---- the code's view of it

-- the parts at the front of a lent list
unfoldable pub sum_in : Option ℕ → List Float → Expansion
sum_in (Some k) f = parts (take k f)
sum_in None f = invalid

-- How many parts the code holds at the front of its lent list; 0 once the sum is invalid.
abbrev pub count_of : Option ℕ → ℕ
count_of (Some k) = k
count_of None = 0

-- Whether the code's sum is valid and has no part, and so what was added comes to 0.
unfoldable pub is_zero : Option ℕ → Bool
is_zero (Some k) = eqb k 0
is_zero None = false

-- x goes behind the first k, unless it is 0; past it nothing changes
pub record Keeps (x : Float) (k : ℕ) (f f' : List Float) (r : ℕ) : Type 0 where
  pub front : take r f' ≡ take k f ++ kept x []
  pub rest : drop (k + 1) f' ≡ drop (k + 1) f
  pub grows : r ≤ k + 1

-- The call that carries x through k parts leaves the model's expansion, with at most one part more.
pub record Carried (x : Float) (k : ℕ) (f f' : List Float) (r : Option ℕ) : Type 0 where
  pub sum : sum_in r f' ≡ carried x (take k f)
  pub grows : count_of r ≤ k + 1

-- an addition adds one part at most
pub record Adds (x : Float) (s : Option ℕ) (f f' : List Float) (r : Option ℕ) : Type 0 where
  pub sum : sum_in r f' ≡ plus x (sum_in s f)
  pub grows : count_of r ≤ count_of s + 1
