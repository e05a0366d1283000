-- What a probe may have touched, and how it is put back from the copy of the rows and from the start values. Assumes nothing.
use Rattle.std.specs.Prelude.{ℕ, ◌+◌, ◌<◌, ◌≤◌, ◌≡◌, ◌⊎◌, List, [], ◌∷◌, length, get_or, drop, Float}
use Rattle.field.specs.Field.{Field, variables}
use Rattle.rows.specs.Model.{row_of}
use Rattle.rows.specs.Stored.{row_on, put_row}
use Rattle.places.specs.Places.{places, other_end, Adjacent, EndsBelow}
use Rattle.run.specs.Cells.{Cells, base, Placed}
use Rattle.scanning.specs.Merge.{list_at, Joined}

-- ---- rows

-- the row of t is what its copy is
abbrev pub back_at_of : ℕ → List Float → ℕ → List Float
back_at_of n f t = put_row f n t (row_on (drop (n + n) f) n t)

-- The floats with the rows of the other ends of these places of x put back from the copy.
unfoldable pub back_all : ℕ → List ℕ → List ℕ → ℕ → List Float → List ℕ → List Float
back_all n rows cols x f [] = f
back_all n rows cols x f (k ∷ ks) = back_all n rows cols x (back_at_of n f (other_end rows cols x k)) ks

-- The floats with the rows of all neighbours of x put back from the copy.
unfoldable pub back : ℕ → List ℕ → List ℕ → ℕ → List Float → List Float
back n rows cols x f = back_all n rows cols x f (places rows cols x)

-- what it asks: the places, and room for the rows and their copy
pub record Backable (n : ℕ) (rows cols : List ℕ) (f : List Float) (u : List ℕ) : Type 0 where
  pub ends : EndsBelow n rows cols
  pub adjacent : Adjacent n rows cols u
  pub room : n + n + (n + n) ≤ length f

-- ---- the variables that a probe fixed

-- j stands at a position from h on, below `count`, of the list at `from`
pub record From (u : List ℕ) (from count h j : ℕ) : Type 0 where
  pub place : ℕ
  pub low : h ≤ place
  pub high : place < count
  pub holds : list_at u from place ≡ j

-- every value is the start value, but for those variables
pub record Undoable (s vs u : List ℕ) (from count : ℕ) : Type 0 where
  pub long : length vs ≡ length s
  pub room : from + count ≤ length u
  pub below : (p : ℕ) → p < count → list_at u from p < length s
  pub values : (j : ℕ) → (get_or vs j 0 ≡ get_or s j 0) ⊎ From u from count 0 j

-- a variable with Y is joined to t
pub record Reached (F : Field) (Y : ℕ → Type 0) (t : ℕ) : Type 0 where
  pub variable : ℕ
  pub fixed : Y variable
  pub joined : Joined F variable t

-- every row is that at the start values s, but for those joined to a variable with Y; the copies are all
pub record Rowed (F : Field) (s : List ℕ) (Y : ℕ → Type 0) (f : List Float) : Type 0 where
  pub rows : (t : ℕ) → t < variables F → (row_on f (variables F) t ≡ row_of F s t) ⊎ Reached F Y t
  pub copy : (t : ℕ) → t < variables F → row_on (drop (variables F + variables F) f) (variables F) t ≡ row_of F s t
  pub room : variables F + variables F + (variables F + variables F) ≤ length f

-- what the loop over the list at `from` asks: it holds the variables whose neighbours' rows are to be put back
pub record Rowable (F : Field) (s u : List ℕ) (from count : ℕ) (f : List Float) : Type 0 where
  pub asks : Backable (variables F) F.rows F.cols f u
  pub room : from + count ≤ length u
  pub below : (p : ℕ) → p < count → list_at u from p < variables F
  pub rowed : Rowed F s (From u from count 0) f

-- what a probe of i leaves: a value is the start value, but at i and at the variables of the queue, and a row is that at the start
-- values, but where it is joined to one of them
pub record Touched (F : Field) (s : List ℕ) (i : ℕ) (c : Cells) : Type 0 where
  pub placed : Placed F c
  pub start_long : length s ≡ variables F
  pub here : i < variables F
  pub values : (j : ℕ) → (get_or c.values j 0 ≡ get_or s j 0) ⊎ ((j ≡ i) ⊎ From c.words (base F) c.tail 0 j)
  pub rowed : Rowed F s (λ x. (x ≡ i) ⊎ From c.words (base F) c.tail 0 x) c.floats
