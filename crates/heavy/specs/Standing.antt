-- What a round and its probe leave in lent memory, where the places stay. Assumes nothing.
use Rattle.std.specs.Prelude.{ℕ, ◌≡◌, List}
use Rattle.field.specs.Field.{Field, variables}
use Rattle.places.specs.Places.{Adjacent}
use Rattle.walking.specs.Walk.{values_left}
use Rattle.heavy.specs.Rounds.{probe_values, round}

-- the values of a full probe at s, in their place
pub record AllProbed (F : Field) (s u' : List ℕ) : Type 0 where
  pub values : values_left F u' ≡ probe_values F s
  pub adjacent : Adjacent (variables F) F.rows F.cols u'

-- What one round from s leaves: the values of the round, and the adjacency in its place.
pub record Rounded (F : Field) (s s' u' : List ℕ) : Type 0 where
  pub values : s' ≡ round F s
  pub adjacent : Adjacent (variables F) F.rows F.cols u'
