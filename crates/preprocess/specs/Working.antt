-- What the call works out (rule 5.10). Assumes nothing.
use Rattle.std.specs.Prelude.{ℕ, zero, suc, ◌+◌, ◌≡◌, Bool, cond, ◌&&◌, List, eqb, Float, length, get_or, set}
use Rattle.std.specs.Float.{nan}
use Rattle.std.specs.Float.Ieee.{eq}
use Rattle.weights.specs.Worth.{zero64}
use Rattle.meaning.specs.Free.{is_free}
use Rattle.field.specs.Field.{Field, variables}
use Rattle.places.specs.Places.{Adjacent}
use Rattle.run.specs.Run.{closure}
use Rattle.components.specs.Small.{small_parts}
use Rattle.no_effect.specs.Effect.{has_no_effect}

-- variable i takes 0 if it is of those meant, and free
unfoldable pub fix_at : Bool → ℕ → List ℕ → List ℕ
fix_at b i s = cond (b && is_free s i) (set s i 0) s

-- The values after each variable below i that passes the test, and is free, has taken 0.
unfoldable pub fix_to : (ℕ → Bool) → ℕ → List ℕ → List ℕ
fix_to p zero s = s
fix_to p (suc i) s = fix_at (p i) i (fix_to p i s)

-- each free variable of no effect takes 0, and a given 1 stays
unfoldable pub with_no_effect : Field → List ℕ → List ℕ
with_no_effect F s = fix_to (has_no_effect F) (variables F) s

-- the closure from there, then the small components
unfoldable pub preprocess : Field → List ℕ → List ℕ
preprocess F s = small_parts F (closure F (with_no_effect F s))

-- ---- over lent memory

-- i has no place, told by its offset and the next one's, and c = 0
abbrev pub idle : List Float → List ℕ → ℕ → Bool
idle c u i = eqb (get_or u i 0) (get_or u (i + 1) 0) && eq (get_or c i nan) zero64

-- what the run over lent memory leaves: the closure, and the adjacency in its place
pub record Closes (F : Field) (s u s' u' : List ℕ) : Type 0 where
  pub values : s' ≡ closure F s
  pub adjacent : Adjacent (variables F) F.rows F.cols u'
  pub words_long : length u' ≡ length u

-- What closure, components and the variables of no effect leave together, with the adjacency in its place.
pub record Preprocesses (F : Field) (s s' u' : List ℕ) : Type 0 where
  pub values : s' ≡ preprocess F s
  pub adjacent : Adjacent (variables F) F.rows F.cols u'
