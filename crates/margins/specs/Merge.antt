-- Two sorted merged rows walked side by side, as the source does, until no bound can give a constraint any more: the keys and the weights
-- of all rows stand in two flat lists. Assumes nothing.
use Rattle.std.specs.Prelude.{ℕ, zero, suc, ◌+◌, ◌-◌, ◌≤◌, ◌<◌, ◌≡◌, Bool, true, not, ◌&&◌, ◌||◌, cond, List, eqb, ltb, length, get_or, Float}
use Rattle.std.specs.Float.{nan}
use Rattle.weights.specs.Worth.{zero64}
use Rattle.meaning.specs.Free.{is_free}
use Rattle.field.specs.Field.{Field, variables}
use Rattle.margins.specs.declared.bounds.Bounds.{Bounds}
use Rattle.margins.specs.declared.walking.Walk.{Walk}
use Rattle.margins.specs.Model.{meets, widen, merged_weight, hopeless}

-- the keys and the weights of all rows, where the rows of i and j end, the pair itself, and its tolerance
pub record Rows : Type 0 where
  pub keys : List ℕ
  pub weights : List Float
  pub end_i : ℕ
  pub end_j : ℕ
  pub i : ℕ
  pub j : ℕ
  pub t : Float

-- The record of the two rows of a pair, made of its seven parts in their order.
abbrev pub rows_of : List ℕ → List Float → ℕ → ℕ → ℕ → ℕ → Float → Rows
rows_of ks ws ea eb i j t = record { keys = ks; weights = ws; end_i = ea; end_j = eb; i = i; j = j; t = t }

-- both rows lie in both lists
pub record Fit (R : Rows) : Type 0 where
  pub weight_i : R.end_i ≤ length R.weights
  pub weight_j : R.end_j ≤ length R.weights
  pub in_i : R.end_i ≤ length R.keys
  pub in_j : R.end_j ≤ length R.keys

-- neighbour k, with its weights at i and at j: i and j themselves are passed over
unfoldable pub met_by : Bounds → ℕ → ℕ → ℕ → Float → Float → Bounds
met_by b i j k wi wj = cond (eqb k i) b (cond (eqb k j) b (cond (meets wi wj) (widen b wi wj) b))

-- One step along the row of i alone: its next neighbour weighs nothing at j.
abbrev pub step_i : Rows → Walk → Walk
step_i R w = record {
  left = w.left + 1;
  right = w.right;
  bounds = met_by w.bounds R.i R.j (get_or R.keys w.left 0) (get_or R.weights w.left nan) zero64;
}

-- One step along the row of j alone: its next neighbour weighs nothing at i.
abbrev pub step_j : Rows → Walk → Walk
step_j R w = record {
  left = w.left;
  right = w.right + 1;
  bounds = met_by w.bounds R.i R.j (get_or R.keys w.right 0) zero64 (get_or R.weights w.right nan);
}

-- One step along both rows, whose next neighbour is the same variable.
abbrev pub step_both_of : Rows → Walk → Walk
step_both_of R w = record {
  left = w.left + 1;
  right = w.right + 1;
  bounds = met_by w.bounds R.i R.j (get_or R.keys w.left 0) (get_or R.weights w.left nan) (get_or R.weights w.right nan);
}

-- the lower of the two keys; both where they are equal
unfoldable pub turn_of : Rows → Walk → Walk
turn_of R w =
    cond (ltb w.left R.end_i)
    (cond (ltb w.right R.end_j)
    (cond (ltb (get_or R.keys w.left 0) (get_or R.keys w.right 0)) (step_i R w)
    (cond (ltb (get_or R.keys w.right 0) (get_or R.keys w.left 0)) (step_j R w) (step_both_of R w)))
    (step_i R w))
    (step_j R w)

-- some bound may give a constraint, and one of the rows is not at its end
unfoldable pub going : ℕ → ℕ → Float → Walk → Bool
going ea eb t w = not (hopeless t w.bounds) && (ltb w.left ea || ltb w.right eb)

-- Whether the walk goes on: some bound may still give a constraint, and a neighbour is left.
abbrev pub live : Rows → Walk → Bool
live R w = going R.end_i R.end_j R.t w

-- How many places of the two rows the walk has not passed, which bounds the steps to come.
abbrev pub left_over : Rows → Walk → ℕ
left_over R w = (R.end_i - w.left) + (R.end_j - w.right)

-- The walk after so many steps, or fewer where it stops before them.
unfoldable pub walk_on : Rows → ℕ → Walk → Walk
walk_on R zero w = w
walk_on R (suc n) w = cond (live R w) (walk_on R n (turn_of R w)) w

-- The walk over both rows from w until it stops.
unfoldable pub walk_all : Rows → Walk → Walk
walk_all R w = walk_on R (left_over R w) w

-- what is left from w is what was left from the start
pub record Going (R : Rows) (w₀ w : Walk) : Type 0 where
  pub fit : Fit R
  pub same : (n : ℕ) → left_over R w ≤ n → walk_on R n w ≡ walk_all R w₀

-- the keys from a to e rise
abbrev pub Rises : List ℕ → ℕ → ℕ → Type 0
Rises keys a e = (p q : ℕ) → a ≤ p → p < q → q < e → get_or keys p 0 < get_or keys q 0

-- the part from a to e of the flat lists is the merged row of x: rising keys, free variables, their merged weights, and no other free variable weighs anything
pub record Listed (F : Field) (s : List ℕ) (x : ℕ) (keys : List ℕ) (weights : List Float) (a e : ℕ) : Type 0 where
  pub rising : Rises keys a e
  pub within : (p : ℕ) → a ≤ p → p < e → get_or keys p 0 < variables F
  pub free : (p : ℕ) → a ≤ p → p < e → is_free s (get_or keys p 0) ≡ true
  pub weight : (p : ℕ) → a ≤ p → p < e → get_or weights p nan ≡ merged_weight F x (get_or keys p 0)
  pub all : (k : ℕ) → k < variables F → is_free s k ≡ true → ((p : ℕ) → a ≤ p → p < e → get_or keys p 0 ≡ k → ⊥) → merged_weight F x k ≡ zero64

-- r is the weight of k in the row from a to e: 0.0 where the row has no such key
pub data Looked (keys : List ℕ) (weights : List Float) (a e k : ℕ) (r : Float) : Type 0 where
  hit : (p : ℕ) → a ≤ p → p < e → get_or keys p 0 ≡ k → r ≡ get_or weights p nan → Looked keys weights a e k r
  miss : ((p : ℕ) → a ≤ p → p < e → get_or keys p 0 ≡ k → ⊥) → r ≡ zero64 → Looked keys weights a e k r

-- where the search stands: what is before `low` is below k, and what is from `high` on is above
pub record Searching (keys : List ℕ) (a e k low high : ℕ) : Type 0 where
  pub from : a ≤ low
  pub to : high ≤ e
  pub below : (p : ℕ) → a ≤ p → p < low → get_or keys p 0 < k
  pub above : (p : ℕ) → high ≤ p → p < e → k < get_or keys p 0
