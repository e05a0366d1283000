-- `finite_at` asks for the sum where the entry lies inside. Assumes nothing.
use mathlib.Core.Path.{ap, ◌∙◌}
use native.Mathlib.Omega.{arith}
use lib.Ieee.Scale.{finite}
use Rattle.mending.proofs.Entries.{square_few}
use Rattle.mending.proofs.Tested.{outside_finite, inside_finite}
use Rattle.mending.proofs.sums.finite_at.Goals as goal

pub place_at-p-requires : goal.place_at-p-requires
place_at-p-requires c = record { listed = c.requires.listed; k_bound = c.requires.k_bound }

pub overflow_mul-field : goal.overflow_mul-field
overflow_mul-field c = omega (arith, square_few _ c.requires.listed.few_variables)

pub returns-then-p-field : goal.returns-then-p-field
returns-then-p-field c = outside_finite _ _ c.place_at-p.ensures c.if-p-field.true

pub sum_at-requires : goal.sum_at-requires
sum_at-requires c = c.requires.listed

pub returns : goal.returns
returns c = inside_finite _ _ c.place_at-p.ensures (omega arith) (c.is_finite.ensures ∙ ap (λ x. finite x) c.sum_at.ensures)
