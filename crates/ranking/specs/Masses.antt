-- The masses in lent memory, and what a ranking asks and leaves. Assumes nothing.
use Rattle.std.specs.Prelude.{ℕ, ◌+◌, ◌<◌, ◌≤◌, ◌≡◌, cond, List, length, get_or, set, take, Float}
use Rattle.std.specs.Float.{nan, binary64}
use Rattle.std.specs.Float.Ieee.{add}
use Rattle.weights.specs.Worth.{magnitude}
use Rattle.scratch.specs.Region.{region}
use Rattle.field.specs.Field.{Field, variables, entries, row_end, column_end, quad_of, Shaped}
use Rattle.field.specs.Tests.{Finite}
use Rattle.ranking.specs.Ranking.{both_free, mass_to, ranks}

-- a is added to the mass at i
unfoldable pub added : List Float → ℕ → Float → List Float
added w i a = set w i (add binary64 (get_or w i nan) a)

-- entry k's magnitude goes to the mass of each end, where both are free
unfoldable pub add_entry : Field → List ℕ → List Float → ℕ → List Float
add_entry F s w k =
    cond (both_free F s k) (added (added w (row_end F k) (magnitude (quad_of F k))) (column_end F k) (magnitude (quad_of F k))) w

-- what the masses need: a well-formed field, a start value and a place for each variable
pub record Massable (F : Field) (s : List ℕ) (w : List Float) : Type 0 where
  pub shaped : Shaped F
  pub values_long : length s ≡ variables F
  pub masses_long : length w ≡ variables F

-- the masses after k entries
pub record Massed (F : Field) (s : List ℕ) (w : List Float) (k : ℕ) : Type 0 where
  pub ready : Massable F s w
  pub within : k ≤ entries F
  pub masses : (i : ℕ) → i < variables F → get_or w i nan ≡ mass_to F s i k

-- the words changed from lo to below hi alone
pub record Outside (lo hi : ℕ) (u u' : List ℕ) : Type 0 where
  pub long : length u' ≡ length u
  pub below : (t : ℕ) → t < lo → get_or u' t 0 ≡ get_or u t 0
  pub above : (t : ℕ) → hi ≤ t → get_or u' t 0 ≡ get_or u t 0

-- what a ranking needs: finite weights, a mass for each variable, and two words for each from `at` on
pub record Rankable (F : Field) (s : List ℕ) (w : List Float) (u : List ℕ) (at : ℕ) : Type 0 where
  pub massable : Massable F s w
  pub finite_weights : Finite F
  pub room : at + variables F + variables F ≤ length u

-- what it leaves: from `at` on the first `limit` of the candidates, in order; words outside its room are as they were
pub record Ranked (F : Field) (s : List ℕ) (limit : ℕ) (u u' : List ℕ) (at count : ℕ) : Type 0 where
  pub few : count ≤ variables F
  pub counted : count ≡ length (take limit (ranks F s))
  pub ranked : region at count u' ≡ take limit (ranks F s)
  pub outside : Outside at (at + variables F + variables F) u u'
