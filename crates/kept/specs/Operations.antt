-- A sequence of operations on a record, refused ones included. Assumes nothing.
use Rattle.std.specs.Prelude.{ℕ, List, [], ◌∷◌, Float}
use Rattle.field.specs.Field.{Field}
use Rattle.kept.specs.Kept.{Kept}
use Rattle.kept.specs.Calls.{record_left, pin_call, release_call}

-- An operation that a caller may ask for: pin a variable at a value, or release a variable.
pub data Operation : Type 0 where
  pin : ℕ → ℕ → Operation
  release : ℕ → Operation

-- What one operation leaves of the record, be it done or refused.
abbrev pub operated : Field → Kept → Operation → Kept
operated F K (pin i v) = (pin_call F K i v).lent
operated F K (release i) = (release_call F K i).lent

-- What all of these operations leave of the record, one after another.
unfoldable pub operated_all : Field → Kept → List Operation → Kept
operated_all F K [] = K
operated_all F K (o ∷ os) = operated_all F (operated F K o) os

-- What these operations leave of the record that the making call leaves.
abbrev pub record_after : Field → List ℕ → List Float → ℕ → List Float → List ℕ → List Operation → Kept
record_after F s b n f u os = operated_all F (record_left F s b n f u) os
