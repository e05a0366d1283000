-- The balance of rule 9.2 as a number, for every field of f64 weights: counted in the smallest unit, 2^-1074, of which every finite f64 is a whole number. Assumes nothing.
use Rattle.std.specs.Prelude.{ℕ, ◌<◌, ◌≤◌, ◌≡◌, true, cond, ◌||◌, List, [], ◌∷◌, T, eqb, length, get_or}
use Rattle.std.specs.Float.{binary64}
use Rattle.std.specs.Float.Ieee.{fits}
use Rattle.whole.specs.Whole.{Whole, nothing, ◌⊕◌, ◌⊙◌, only, sum, Zero}
use Rattle.weights.specs.Worth.{read}
use Rattle.expansion.specs.Overflow.{Valid}
use Rattle.field.specs.Field.{Field, variables, entries, linear_of, row_end, column_end, quad_of}
use Rattle.parts.specs.Part.{has}
use Rattle.anchors.specs.Rule.{terms, HeldWeights}

-- q of entry k, and 2q on the diagonal
abbrev pub entry_of : Field → ℕ → Whole
entry_of F k = cond (eqb (row_end F k) (column_end F k)) (read 0 (quad_of F k) ⊙ 2) (read 0 (quad_of F k))

-- 4c and q of each entry that has an end at variable i
abbrev pub sum_of : Field → ℕ → Whole
sum_of F i = read 0 (linear_of F i) ⊙ 4 ⊕ sum (entries F) (λ k. only (eqb (row_end F k) i || eqb (column_end F k) i) (entry_of F k))

-- when a component has an anchor (rule 9.5): it is large enough, every member is free, no sum of a member overflows, and the number
-- of every member is 0
pub record TurnsByNumber (F : Field) (s : List ℕ) (least : ℕ) (K : List ℕ) : Type 0 where
  pub large : least ≤ length K
  pub free : (i : ℕ) → has K i ≡ true → get_or s i 0 ≡ 2
  pub valid : (i : ℕ) → has K i ≡ true → Valid (terms F i)
  pub zero : (i : ℕ) → has K i ≡ true → Zero (sum_of F i)

-- Every weight of the field, c and q alike, is one that an f64 holds.
pub record HeldField (F : Field) : Type 0 where
  pub linear : (i : ℕ) → i < variables F → T (fits binary64 (linear_of F i))
  pub quad : HeldWeights F

-- the sum of g over a list of entries
unfoldable pub gather : (ℕ → Whole) → List ℕ → Whole
gather g [] = nothing
gather g (k ∷ ks) = g k ⊕ gather g ks
