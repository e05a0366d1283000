-- Walks worked by hand, by computation: the order is that of a last-in stack. Assumes nothing.
use mathlib.Core.Path.{◌≡◌, refl}
use mathlib.Core.Bool.{true, false}
use mathlib.Core.List.{[], ◌∷◌}
use lib.Ieee.{eq, ne, of_bits}
use Rattle.weights.specs.Worth.{zero64, half64}
use Rattle.field.specs.Field.{Field, field_of}
use Rattle.places.specs.Places.{places, places_from, keep, other_end}
use Rattle.parts.specs.Walk.{push, visit, visit_at, visit_all, serve, turn_on_of, turns, walk, part_at, parts_to, components}

-- five variables, the entries (0,1), (0,2) and (3,4), the second of weight 0
abbrev five : Field
five = field_of (zero64 ∷ zero64 ∷ zero64 ∷ zero64 ∷ zero64 ∷ []) (0 ∷ 0 ∷ 3 ∷ []) (1 ∷ 2 ∷ 4 ∷ []) (half64 ∷ zero64 ∷ half64 ∷ [])

-- the neighbours 1 and 2 are pushed in that order, and 2 is popped first
pub last_in : components five true (2 ∷ 2 ∷ 2 ∷ 2 ∷ 2 ∷ []) ≡ (0 ∷ 2 ∷ 1 ∷ []) ∷ (3 ∷ 4 ∷ []) ∷ []
unfolding components parts_to part_at walk turns turn_on_of serve visit_all visit_at visit push places places_from keep other_end eq ne of_bits
last_in = refl

-- a stored zero that does not join
pub zero_apart : components five false (2 ∷ 2 ∷ 2 ∷ 2 ∷ 2 ∷ []) ≡ (0 ∷ 1 ∷ []) ∷ (2 ∷ []) ∷ (3 ∷ 4 ∷ []) ∷ []
unfolding components parts_to part_at walk turns turn_on_of serve visit_all visit_at visit push places places_from keep other_end eq ne of_bits
zero_apart = refl

-- no component goes through a fixed variable
pub fixed_bars : components five true (1 ∷ 2 ∷ 2 ∷ 2 ∷ 0 ∷ []) ≡ (1 ∷ []) ∷ (2 ∷ []) ∷ (3 ∷ []) ∷ []
unfolding components parts_to part_at walk turns turn_on_of serve visit_all visit_at visit push places places_from keep other_end eq ne of_bits
fixed_bars = refl
