-- Pair dominance: two free variables i and j, and a pattern (a, b) of their values, where true stands for 1.
-- The margin of a pattern is the least of f at (a, b) less f at the opposite pattern, in half units, over all values of the other free variables:
-- the four bounds of a pair are the margins of 11, 00, 10 and 01 (rule 8.7). Assumes nothing.
use Rattle.std.specs.Prelude.{Bool, true, false, not, ◌&&◌, List, [], ◌∷◌, ℕ, zero, suc, get_or, set, eqb, ltb}
use Rattle.whole.specs.Whole.{Whole, nothing, ◌⊕◌, ◌⊖◌, ◌⊑◌, only, sum, min0, max0, Above0}
use Rattle.meaning.specs.Field.{Field, Completion, twice_f}
use Rattle.meaning.specs.Free.{is_free}
use Rattle.meaning.specs.Gradient.{view, share, gradient}
use Rattle.meaning.specs.Kinds.{Kind, at_least_one, no_more_than_one, greater_than, less_than}

-- the weights between the same two variables, added up
abbrev pub joins : Field → ℕ → ℕ → ℕ → Whole
joins F i j k =
    only (eqb (F.row k) i) (only (eqb (F.column k) j) (F.weight k))
    ⊕ only (eqb (F.column k) i) (only (eqb (F.row k) j) (F.weight k))

-- The weight between i and k in whole numbers: the sum of q over all entries that join the two.
abbrev pub merged : Field → ℕ → ℕ → Whole
merged F i j = sum F.m (joins F i j)

-- The value for which a truth value of a pattern stands: 1 for true and 0 for false.
abbrev pub bit : Bool → ℕ
bit true = 1
bit false = 0

-- counted for where the variable is 1 in the pattern, against where it is 0
abbrev pub signed : Bool → Whole → Whole
signed true w = w
signed false w = nothing ⊖ w

-- the pair's own weight: for at 11, against at 00, and not at all at 10 and 01
abbrev pub own : Bool → Bool → Whole → Whole
own true true w = w
own true false w = nothing
own false true w = nothing
own false false w = nothing ⊖ w

-- what variable k weighs in f at (a, b) less f at the opposite
abbrev pub pull : Bool → Bool → Field → ℕ → ℕ → ℕ → Whole
pull a b F i j k = signed a (merged F i k) ⊕ signed b (merged F j k)

-- k is neither i nor j
abbrev pub other : ℕ → ℕ → ℕ → Bool
other i j k = not (eqb k i) && not (eqb k j)

-- what k counts where it weighs w k, and `free` says what a free variable counts; i and j themselves count nothing
abbrev pub pull_part : (Whole → Whole) → (ℕ → Whole) → List ℕ → ℕ → ℕ → ℕ → Whole
pull_part free w s i j k = only (other i j k) (share (free (w k)) (w k) (get_or s k 0))

-- f at (a, b) less f at the opposite, counted with `free` at each free variable
abbrev pub gap : (Whole → Whole) → Bool → Bool → Field → List ℕ → ℕ → ℕ → Whole
gap free a b F s i j =
    signed a (F.linear i) ⊕ signed b (F.linear j) ⊕ own a b (merged F i j) ⊕ sum F.n (pull_part free (pull a b F i j) s i j)

-- The least of f at (a, b) less f at the opposite, over all values of the other free variables.
abbrev pub margin : Bool → Bool → Field → List ℕ → ℕ → ℕ → Whole
margin = gap min0

-- The greatest of f at (a, b) less f at the opposite, over all values of the other free variables.
abbrev pub greatest : Bool → Bool → Field → List ℕ → ℕ → ℕ → Whole
greatest = gap max0

-- the value v, or where that is free the one of b
unfoldable pub fill : ℕ → Bool → ℕ
fill zero b = 0
fill (suc zero) b = 1
fill (suc (suc v)) b = bit b

-- s with each free place filled: 1 where its weight is below 0, and 0 elsewhere
abbrev pub lowest : (ℕ → Whole) → List ℕ → List ℕ
lowest w [] = []
lowest w (v ∷ s) = fill v (ltb (w zero).plus (w zero).less) ∷ lowest (λ k. w (suc k)) s

-- the completion of s that reaches the margin
abbrev pub least_at : Bool → Bool → Field → List ℕ → ℕ → ℕ → List ℕ
least_at a b F s i j = lowest (pull a b F i j) s

-- x with the pattern at i and j
abbrev pub at : Bool → Bool → List ℕ → ℕ → ℕ → List ℕ
at a b x i j = set (set x i (bit a)) j (bit b)

-- f at (a, b) less f at the opposite, with the other values of x
abbrev pub difference : Bool → Bool → Field → List ℕ → ℕ → ℕ → Whole
difference a b F x i j = twice_f F (at a b x i j) ⊖ twice_f F (at (not a) (not b) x i j)

-- what is above a tolerance that is not negative: P z says that z half units are
pub record Tolerance (P : Whole → Type 0) : Type 0 where
  pub rises : {y z : Whole} → y ⊑ z → P y → P z
  pub strict : {z : Whole} → P z → Above0 z

-- above the tolerance whatever the other free variables are
abbrev pub Always : (Whole → Type 0) → Bool → Bool → Field → List ℕ → ℕ → ℕ → Type 0
Always P a b F s i j = (x : List ℕ) → Completion s x → P (difference a b F x i j)

-- the constraint on (i, j) where f at the pattern is always above f at the opposite: it forbids the pattern
abbrev pub dominated : Bool → Bool → Kind
dominated true true = no_more_than_one
dominated false false = at_least_one
dominated true false = less_than
dominated false true = greater_than

-- ---- as it is worked: fixed ends into the linear parts, then the free neighbours

-- the gradient of i where free ends count nothing
abbrev pub settled : Field → List ℕ → ℕ → Whole
settled F s i = gradient (λ q. nothing) F (view s) i

-- k is free, and neither i nor j
abbrev pub third : List ℕ → ℕ → ℕ → ℕ → Bool
third s i j k = other i j k && is_free s k
