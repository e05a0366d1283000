-- The units that serve some fields, by computation. Assumes nothing.
use mathlib.Core.Path.{◌≡◌, refl}
use mathlib.Core.List.{map}
use lib.Ieee.{of_bits}
use Rattle.weights.specs.Counts.{whole_in, plus, minus}
use Rattle.scratch.specs.All.{all_below}
use Rattle.field.specs.Grade.{weighs, all_weigh, serves, first_of, unit_of}
use Rattle.worked.specs.Units.{serving_to, serving, graded, smallest, many}

-- Theorem. The smallest unit is the one worked by hand, and so many serve.
pub units_worked : (map unit_of graded ≡ smallest) × (map serving graded ≡ many)
unfolding unit_of first_of serving_to serves all_weigh weighs whole_in plus minus all_below of_bits
units_worked = (refl, refl)
