-- Cases e and f: the bound is exactly 0, as the float of each row and over whole numbers. Assumes nothing.
use Prim.Native.Nat.{ℕ, zero, suc, ◌<◌}
use mathlib.Core.Path.{◌≡◌, refl}
use mathlib.Core.List.{List, [], ◌∷◌}
use native.Mathlib.Omega.{arith}
use lib.Ieee.{add, mul, le, of_bits}
use Rattle.whole.specs.Whole.{nothing, sum, ◌≈◌}
use Rattle.weights.specs.Counts.{whole_in, plus, minus}
use Rattle.scratch.specs.All.{all_below}
use Rattle.meaning.specs.Gradient.{share, low, high}
use Rattle.field.specs.Field.{Field}
use Rattle.field.specs.Grade.{weighs, all_weigh, serves, first_of, unit_of}
use Rattle.field.specs.Reading.{whole_of}
use Rattle.rows.specs.Row.{add_term}
use Rattle.rows.specs.Model.{at_end, at_entry, row_to, row_of}
use Rattle.worked.specs.Fields.{nought, two, minus_two, joined}

-- Theorem. Case e, c=(0,0), (0,1) 2: the lower bound is exactly 0.
pub lower_at_zero : (i : ℕ) → i < 2 → (let F = joined (nought ∷ nought ∷ []) two in ((row_of F (2 ∷ 2 ∷ []) i).lower ≡ nought) × (low (whole_of (unit_of F) F) (2 ∷ 2 ∷ []) i ≈ nothing))
unfolding row_of row_to at_entry at_end add_term add mul le of_bits sum share plus minus unit_of first_of serves all_weigh weighs whole_in all_below
lower_at_zero zero h = (refl, refl)
lower_at_zero (suc zero) h = (refl, refl)
lower_at_zero (suc (suc i)) h = absurd (omega arith)

-- Theorem. Case f, (0,1) -2: the upper bound is exactly 0.
pub upper_at_zero : (i : ℕ) → i < 2 → (let F = joined (nought ∷ nought ∷ []) minus_two in ((row_of F (2 ∷ 2 ∷ []) i).upper ≡ nought) × (high (whole_of (unit_of F) F) (2 ∷ 2 ∷ []) i ≈ nothing))
unfolding row_of row_to at_entry at_end add_term add mul le of_bits sum share plus minus unit_of first_of serves all_weigh weighs whole_in all_below
upper_at_zero zero h = (refl, refl)
upper_at_zero (suc zero) h = (refl, refl)
upper_at_zero (suc (suc i)) h = absurd (omega arith)
