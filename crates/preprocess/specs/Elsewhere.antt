-- Values that are alike but for the variables of no effect. Assumes nothing.
use Rattle.std.specs.Prelude.{ℕ, ◌≡◌, false, List, length, get_or}
use Rattle.field.specs.Field.{Field}
use Rattle.no_effect.specs.Effect.{has_no_effect}

-- of one length, and the same at every variable that has an effect
pub record SameElsewhere (F : Field) (s s' : List ℕ) : Type 0 where
  pub long : length s' ≡ length s
  pub at : (i : ℕ) → has_no_effect F i ≡ false → get_or s' i 0 ≡ get_or s i 0
